-- The examples hold: antt computes one test over the whole table.
-- Assumes nothing.
use mathlib.Core.Path.{◌≡◌, refl}
use mathlib.Core.Bool.{true}
use mathlib.Core.List.{flat_map}
use Rattle.rule.specs.Bits.{bit, set_bit, from, sum_over}
use Rattle.rule.specs.Tests.{each, keep, same, among}
use Rattle.rule.specs.Table.{cofactor, depends, fixings, restrict}
use Rattle.rule.specs.Level.{distinct, level_nodes, nodes_from, asked_by, asked_total, rows_asking}
use Rattle.rule.specs.Order.{times, each_once, rest_zero, fit_order, asked_before, picks, gather, orders_of, first_least, least_of, all_at, all_least, smallest, packed}
use Rattle.rule.specs.Sets.{flag_set}
use Rattle.rule.specs.Cells.{fit_cells, flag_at, low_at, high_at, record_cells}
use Rattle.rule.specs.Walk.{step, walk_in, passed_in, walks_asking, asked_in_all}
use Rattle.rule.specs.Sound.{flags_below, children_differ, children_smaller, asks_later, children_later, same_record, none_equal, rest_clear, laid, shaped, sound}
use Rattle.rule.specs.Diagram.{reach_in, all_reached, diagram}
use Rattle.rule.specs.Sequence.{rises, precedes, in_sequence, insert, sorted, place, rises_in, rules_from, first_asked, rule_record, records_of, drawing}
use Rattle.rule.specs.Provoke.{has_fixed, ones_fixed, serving}
use Rattle.rule.specs.Log.{snapshots, played, yes_answers, changes_behind, changes, times_asked}
use Rattle.rule.specs.Files.{unless, read_map, read_flags, read_order, read_label, read_records, read_end, reading, file_of}
use Rattle.rule.specs.Text.{text, decimal_in, read_line}
use Rattle.rule.specs.Listing.{flags_from, listed, listing}
use Rattle.rule.specs.RigTally.{rig_tally}
use Rattle.rule.specs.Sheet.{record_line, last_line, sheet_lines, sheet, number_from}
use Rattle.rule.specs.Examples.{holds, examples}

pub examples_hold : each holds examples ≡ true
unfolding bit set_bit from sum_over each keep same among cofactor depends fixings restrict distinct level_nodes nodes_from asked_by asked_total rows_asking times each_once rest_zero fit_order asked_before picks gather orders_of first_least least_of all_at all_least smallest packed fit_cells flag_at low_at high_at flag_set step walk_in passed_in walks_asking asked_in_all flags_below children_differ children_smaller asks_later children_later same_record none_equal rest_clear laid shaped sound reach_in all_reached diagram rises precedes in_sequence insert sorted place rises_in rules_from first_asked rule_record records_of drawing has_fixed ones_fixed serving snapshots played yes_answers changes_behind changes times_asked unless read_map read_flags read_order read_label read_records record_cells read_end reading file_of text decimal_in read_line flags_from listed listing rig_tally flat_map record_line last_line sheet_lines sheet number_from holds examples
examples_hold = refl
