-- `bits::bit` meets its contract: a shift and a remainder give the bit.
-- Assumes nothing.
use mathlib.Core.Path.{sym}
use Rattle.theory.proofs.Bits.{bit_shift}
use Rattle.bits.proofs.bit.Goals as goal

pub returns : goal.returns
returns c = sym (bit_shift _ _)
