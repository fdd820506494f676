-- `coding::request_at` meets its contract: the kind and the arguments are the words at their places.
-- Assumes nothing.
use Rattle.coding.specs.Coded.{request_at}
use Rattle.coding.proofs.request_at.Goals as goal

pub returns : goal.returns
unfolding request_at
returns c = c.request_by.ensures
