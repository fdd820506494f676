-- `coding::given_at` meets its contract: each part is the word at its place.
-- Assumes nothing.
use Rattle.coding.specs.Coded.{given_at}
use Rattle.coding.proofs.given_at.Goals as goal

pub returns : goal.returns
unfolding given_at
returns c = cc
