-- `entry_send::transmit` meets its contract.
use Rattle.entry_send.specs.Sending.{send_of, sent_memory}
use Rattle.entry_send.proofs.Past.{past_gate}
use Rattle.entry_send.proofs.transmit.Goals as goal

pub transmit-requires : goal.transmit-requires
transmit-requires c = past_gate _ _ c.ask-asked.ensures c.in-Ok.is

pub returns-in-Err : goal.returns-in-Err
unfolding send_of sent_memory
returns-in-Err c = record {
  value = rw (← c.ask-asked.ensures, c.in-Err.is);
  tx_after = rw (← c.ask-asked.ensures, c.in-Err.is);
}

pub returns-in-Ok : goal.returns-in-Ok
unfolding send_of sent_memory
returns-in-Ok c =
    record {
      value = rw (← c.ask-asked.ensures, c.in-Ok.is) c.transmit.ensures.value;
      tx_after = rw (← c.ask-asked.ensures, c.in-Ok.is) c.transmit.ensures.tx_after;
    }
