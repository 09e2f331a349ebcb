-- `entry_receive::judge` meets its contract.
use Rattle.entry_receive.proofs.Answers.{judged_denied, judged_done, judged_not}
use Rattle.entry_receive.proofs.judge.Goals as goal

pub returns-then-not-allowed : goal.returns-then-not-allowed
returns-then-not-allowed c = judged_denied _ _ c.if-not-allowed.true-raw

pub returns-then-receives : goal.returns-then-receives
returns-then-receives c = judged_done _ _ c.is_online.result c.if-not-allowed.false-raw c.is_online.ensures c.if-receives.true

pub returns : goal.returns
returns c = judged_not _ _ c.is_online.result c.if-not-allowed.false-raw c.is_online.ensures c.if-receives.false
