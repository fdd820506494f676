-- `encoding::parts::put_records` meets its contract: the first k records are written.
-- Assumes nothing.
use Rattle.rule.specs.Cells.{records_in}
use Rattle.rule.specs.Files.{record_bytes}
use Rattle.runs.specs.Run.{Puts}
use Rattle.encoding.proofs.parts.put_records.Given as goal

abbrev pub invariant-loop-k : goal.invariant-loop-k
invariant-loop-k l = Puts l.initial.bytes l.at (record_bytes (records_in l.cells l.k)) l.next l.bytes
