-- `dispatch::answer_call` meets its contract.
use Rattle.gate.specs.Lent.{loan}
use Rattle.dispatch.specs.Dispatch.{effect_of}
use Rattle.dispatch_receive.proofs.Room.{segment-sent, walk_kept}
use Rattle.dispatch.proofs.Kept.{own_kept, lost_kept, ticks_kept, switch_all_kept, read_kept}
use Rattle.dispatch.proofs.Kept.{clear_kept, datagram_kept, accept_kept, take_kept, transmit_kept}
use Rattle.wire.proofs.Clauses.{value_rx_tx_out}
use Rattle.dispatch.proofs.answer_call.Goals as goal

pub returns-in-Ticks : goal.returns-in-Ticks
unfolding effect_of
returns-in-Ticks c = let k = ticks_kept _ _ _ in
    rw c.in-Ticks.is record {
      value = c.many_ticks.ensures.value;
      rx_after = k.0;
      tx_after = k.1;
      out_after = c.many_ticks.ensures.out_after;
    }

pub returns-in-Own : goal.returns-in-Own
unfolding effect_of
returns-in-Own c = let k = own_kept _ _ _ _ in
    rw c.in-Own.is record {
      value = c.own.ensures.value;
      rx_after = k.0;
      tx_after = k.1;
      out_after = c.own.ensures.out_after;
    }

pub returns-in-Lost : goal.returns-in-Lost
unfolding effect_of
returns-in-Lost c = let k = lost_kept _ _ _ in
    rw c.in-Lost.is record {
      value = c.lost.ensures.value;
      rx_after = k.0;
      tx_after = k.1;
      out_after = c.lost.ensures.out_after;
    }

pub returns-in-Segment : goal.returns-in-Segment
unfolding effect_of
returns-in-Segment c = let a = c.args in
    value_rx_tx_out (rw (
      c.in-Segment.is,
      ← c.bytes_from.ensures.bytes,
    )
    (c.segment.ensures.value, (c.segment.ensures.rx_after, (segment-sent (loan a.image.now a.state a.rx.now a.tx.now) _ _ _, c.segment.ensures.out_after))))

pub returns-in-Walk : goal.returns-in-Walk
unfolding effect_of
returns-in-Walk c = let w = walk_kept _ _ _ _ _ in
    rw (c.in-Walk.is, ← c.bytes_from-in-Walk.ensures.bytes)
    record {
      value = c.walk.ensures.value;
      rx_after = w.0;
      tx_after = w.1;
      out_after = c.walk.ensures.out_after;
    }

pub returns-in-TakeWaiting : goal.returns-in-TakeWaiting
unfolding effect_of
returns-in-TakeWaiting c = let k = take_kept _ _ _ _ in
    rw c.in-TakeWaiting.is record {
      value = c.take_waiting.ensures.value;
      rx_after = k.0;
      tx_after = k.1;
      out_after = c.take_waiting.ensures.out_after;
    }

pub returns-in-Datagram : goal.returns-in-Datagram
unfolding effect_of
returns-in-Datagram c = let k = datagram_kept _ _ _ _ in
    rw c.in-Datagram.is record {
      value = c.datagram.ensures.value;
      rx_after = k.0;
      tx_after = k.1;
      out_after = c.datagram.ensures.out_after;
    }

pub returns-in-Accept : goal.returns-in-Accept
unfolding effect_of
returns-in-Accept c = let k = accept_kept _ _ _ _ in
    rw c.in-Accept.is record {
      value = c.accept.ensures.value;
      rx_after = k.0;
      tx_after = k.1;
      out_after = c.accept.ensures.out_after;
    }

pub returns-in-Transmit : goal.returns-in-Transmit
unfolding effect_of
returns-in-Transmit c = value_rx_tx_out (rw (
  c.in-Transmit.is,
  ← c.bytes_from-in-Transmit.ensures.bytes,
) (c.transmit.ensures.value, (transmit_kept _ _ _ _, (c.transmit.ensures.tx_after, c.transmit.ensures.out_after))))

pub returns-in-SwitchAll : goal.returns-in-SwitchAll
unfolding effect_of
returns-in-SwitchAll c = let k = switch_all_kept _ _ _ _ in
    rw c.in-SwitchAll.is record {
      value = c.switch_all.ensures.value;
      rx_after = k.0;
      tx_after = k.1;
      out_after = c.switch_all.ensures.out_after;
    }

pub returns-in-ReadCount : goal.returns-in-ReadCount
unfolding effect_of
returns-in-ReadCount c = let k = read_kept _ _ _ in
    rw c.in-ReadCount.is record {
      value = c.read_count.ensures.value;
      rx_after = k.0;
      tx_after = k.1;
      out_after = c.read_count.ensures.out_after;
    }

pub returns-in-ClearCount : goal.returns-in-ClearCount
unfolding effect_of
returns-in-ClearCount c = let k = clear_kept _ _ _ in
    rw c.in-ClearCount.is record {
      value = c.clear_count.ensures.value;
      rx_after = k.0;
      tx_after = k.1;
      out_after = c.clear_count.ensures.out_after;
    }
