use Rattle.painting.proofs.Chains.{linking_start, linking_loaded, linking_below, linking_back, linking_end}
use Rattle.painting.proofs.link_all.Goals as goal

pub loop-i-init : goal.loop-i-init
loop-i-init c = linking_start _ _ _ c.requires _ c.unlink.ensures _ c.variables-n.ensures c.actions-m.ensures

pub link-requires : goal.link-requires
link-requires c =
    let p = c.requires in
    (linking_loaded _ _ _ p _ c.unlink.ensures _ _ c.loop-i.invariant, linking_below _ _ _ p _ c.unlink.ensures _ _ c.loop-i.invariant c.loop-i-test.true)

pub loop-i-preserved : goal.loop-i-preserved
loop-i-preserved c = linking_back _ _ _ c.requires _ c.unlink.ensures _ _ c.loop-i.invariant c.loop-i-test.true _ c.link.ensures

pub returns : goal.returns
returns c = linking_end _ _ _ c.requires _ c.unlink.ensures _ _ c.loop-i.invariant c.loop-i-test.false
