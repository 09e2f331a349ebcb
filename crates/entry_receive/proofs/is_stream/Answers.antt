-- `entry_receive::is_stream` meets its contract.
use Rattle.entry_receive.proofs.Answers.{stream-is}
use Rattle.entry_receive.proofs.is_stream.Goals as goal

pub body_laid-connections-requires : goal.body_laid-connections-requires
body_laid-connections-requires c = c.requires c.in-Ok.is

pub body_laid-groups-requires : goal.body_laid-groups-requires
body_laid-groups-requires c = c.requires c.in-Ok.is

pub returns-in-Ok : goal.returns-in-Ok
returns-in-Ok c =
    rw c.in-Ok.is
    (stream-is _ _ c.body_laid-connections.result.now c.body_laid-connections.ensures.bytes c.body_laid-groups.result.now
    c.body_laid-groups.ensures.bytes c.is_tcp.result c.is_tcp.ensures)
