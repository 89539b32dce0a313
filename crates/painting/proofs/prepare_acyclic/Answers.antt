use Rattle.painting.proofs.Checks.{unreturned_below, linked_acyclic, linked_rows, readied_chained, readied_acyclic, readied_eight}
use Rattle.painting.proofs.prepare_acyclic.Goals as goal

pub write_order-requires : goal.write_order-requires
write_order-requires c =
    let p = c.requires in
    let A = linked_acyclic _ _ _ p.0 c.link_all.ensures in
    (A.loaded, linked_rows _ _ _ p.0 c.link_all.ensures _ p.1, A.colours)

pub lowest_lacking-requires : goal.lowest_lacking-requires
lowest_lacking-requires c =
    let p = c.requires in
    (readied_acyclic _ _ _ _ p.0 c.link_all.ensures c.write_order.ensures, readied_chained _ _ _ _ p.0 c.link_all.ensures c.write_order.ensures)

pub refused_at-requires : goal.refused_at-requires
refused_at-requires c =
    let p = c.requires in
    unreturned_below _ (readied_acyclic _ _ _ _ p.0 c.link_all.ensures c.write_order.ensures).loaded.formed _ c.lowest_lacking.ensures

pub returns : goal.returns
returns c = readied_eight _ _ _ _ c.requires.0 c.link_all.ensures c.write_order.ensures _ _ c.refused_at.ensures c.lowest_lacking.ensures
