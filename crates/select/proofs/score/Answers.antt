-- `select::score` meets its contract.
use Rattle.select.proofs.Scores.{score_yes, score_no}
use Rattle.select.proofs.score.Goals as goal

pub returns-then-scores : goal.returns-then-scores
returns-then-scores c =
    let a = c.args in
    score_yes a.accept a.member a.source a.c _ _ _ _ c.is_reconnect-waits.ensures
    c.is_online-up.ensures c.equal_fields-equal.ensures c.wild_fields-wild.ensures _ c.if-scores.true c.rank.ensures.0

pub returns : goal.returns
returns c =
    let a = c.args in
    score_no a.accept a.member a.source a.c _ _ _ _ c.is_reconnect-waits.ensures
    c.is_online-up.ensures c.equal_fields-equal.ensures c.wild_fields-wild.ensures c.if-scores.false
