-- `table_scan::first_bad_connection` meets its contract. The loop's invariant: what is left of the search has the whole one's answer.
use Rattle.table_scan.proofs.Rows.{At}
use Rattle.table_rows.specs.Rules.{connection_rule}
use Rattle.table_scan.specs.Scan.{share}
use Rattle.table_layout.specs.declared.Kind.TheVariants.{Connection}
use Rattle.table_scan.proofs.first_bad_connection.Given as goal

abbrev pub invariant-loop-i : goal.invariant-loop-i
invariant-loop-i l = At (connection_rule l.groups) (share Connection) 16 l.body l.i
