-- `send_waiting::after_take` meets its contract.
use Rattle.send_waiting.proofs.Taken.{after_none, after-tcp, after-udp}
use Rattle.send_waiting.proofs.after_take.Goals as goal

pub returns-then-not-leaves : goal.returns-then-not-leaves
returns-then-not-leaves c = let a = c.args in after_none a.config a.c _ c.has_wildcard.ensures c.if-not-leaves.true-raw

pub returns-then-config : goal.returns-then-config
returns-then-config c = let a = c.args in
    after-tcp a.config a.c _ c.has_wildcard.ensures c.if-not-leaves.false-raw c.if-config.true

pub returns : goal.returns
returns c =
    let a = c.args in
    rw c.reset-back.ensures
    (after-udp a.config a.c _ c.has_wildcard.ensures c.if-not-leaves.false-raw c.if-config.false)
