-- `apply::single::flag_node` meets its contract: the node of two end nodes.
-- Assumes nothing.
use Rattle.apply.proofs.OneFlag.{flag_made}
use Rattle.apply.proofs.single.flag_node.Goals as goal

pub returns : goal.returns
returns c =
    let p = c.requires in
    flag_made p.1 p.0 c.make.ensures.0 c.make.ensures.1
