-- `receive_route::lookup` meets its contract.
use Rattle.receive_route.proofs.Laws.{lookup_at, lookup_else}
use Rattle.receive_route.proofs.lookup.Goals as goal

pub returns-in-0 : goal.returns-in-0
returns-in-0 c = lookup_at _ _ _ _ _ _ _ c.find-i.ensures.is c.reason_of-reason.ensures c.in-0.is

pub returns-in-1 : goal.returns-in-1
returns-in-1 c = lookup_at _ _ _ _ _ _ _ c.find-i.ensures.is c.reason_of-reason.ensures c.in-1.is

pub returns-in-21 : goal.returns-in-21
returns-in-21 c = lookup_at _ _ _ _ _ _ _ c.find-i.ensures.is c.reason_of-reason.ensures c.in-21.is

pub returns-in-22 : goal.returns-in-22
returns-in-22 c = lookup_at _ _ _ _ _ _ _ c.find-i.ensures.is c.reason_of-reason.ensures c.in-22.is

pub returns-in_default : goal.returns-in_default
returns-in_default c =
    let not = c.in_default.in_default-own.rest in
    lookup_else _ _ _ _ _ _ _ c.find-i.ensures.is c.reason_of-reason.ensures not.0.0.0.1 not.0.0.1 not.0.1 not.1
