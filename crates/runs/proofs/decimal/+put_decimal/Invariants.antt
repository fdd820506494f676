-- `runs::decimal::put_decimal` meets its contract: the measure is the number, and the last digit stands behind those of a tenth.
-- Assumes nothing.
use Rattle.runs.proofs.decimal.+put_decimal.Given as goal

abbrev pub decreases-put_decimal : goal.decreases-put_decimal
decreases-put_decimal l = l.x
