use Rattle.std.proofs.Common.{◌+◌, length, subst}
use Rattle.dense_mat.specs.Echelon.{AreRows, IsEchelonOf}
use Rattle.dense_mat.specs.Graph.{IsGraph}
use Rattle.dense_mat.proofs.Kernels.{graph_rows, kernel_echelon, kernel_basis}
use Rattle.dense_mat.proofs.null_space.kernel_by_images.Goals as goal

pub echelon_of-requires : goal.echelon_of-requires
echelon_of-requires c =
    let rows_of : AreRows c.args.field c.args.part.now.width c.args.part.now.rows =
    subst (λ p. AreRows p c.args.part.now.width c.args.part.now.rows) c.requires.field c.rows.ensures.basis.rows_of in
    rw (c.deref.ensures.value, c.width-width.ensures) (record {
      rows =
          graph_rows c.args.field c.args.part.now.width c.args.images.now c.args.part.now.rows c.in_ok-graph.graph.items rows_of c.requires.images
          c.requires.many (rw c.rows.ensures.rows at c.in_ok-graph.ensures);
    })

pub basis_of-requires : goal.basis_of-requires
basis_of-requires c =
    let rows_of : AreRows c.args.field c.args.part.now.width c.args.part.now.rows =
    subst (λ p. AreRows p c.args.part.now.width c.args.part.now.rows) c.requires.field c.rows.ensures.basis.rows_of in
    let graph : IsGraph c.args.images.now c.args.part.now.rows (length c.args.part.now.rows) c.in_ok-graph.graph.items =
    rw c.rows.ensures.rows at c.in_ok-graph.ensures in
    let echelon : IsEchelonOf c.args.field (c.args.part.now.width + c.args.part.now.width) c.in_ok-graph.graph.items
    c.in_ok-echelon.echelon.rows.items c.in_ok-echelon.echelon.leads.items =
    rw (c.deref.ensures.value, c.width-width.ensures) at c.in_ok-echelon.ensures in
    rw c.width.ensures (kernel_echelon c.args.field c.args.part.now.width c.args.images.now c.args.part.now.rows c.in_ok-graph.graph.items
    c.in_ok-echelon.echelon.rows.items c.in_ok-rests_of.field-0.items c.in_ok-echelon.echelon.leads.items c.in_ok-leads_from.field-0.items
    rows_of c.requires.images c.requires.many graph echelon c.position_of-start.result
    (rw c.deref-2.ensures.value at c.position_of-start.ensures.within)
    (rw (c.deref-2.ensures.value, c.width-width.ensures) at c.position_of-start.ensures.before)
    (rw (c.deref-2.ensures.value, c.width-width.ensures) at c.position_of-start.ensures.after)
    (rw (c.deref-3.ensures.value, c.width-width.ensures) at c.in_ok-rests_of.ensures) (rw c.deref-4.ensures.value at c.in_ok-leads_from.ensures.many)
    (rw (c.deref-4.ensures.value, c.width-width.ensures) at c.in_ok-leads_from.ensures.each))

pub returns : goal.returns
returns c =
    let rows_of : AreRows c.args.field c.args.part.now.width c.args.part.now.rows =
    subst (λ p. AreRows p c.args.part.now.width c.args.part.now.rows) c.requires.field c.rows.ensures.basis.rows_of in
    let graph : IsGraph c.args.images.now c.args.part.now.rows (length c.args.part.now.rows) c.in_ok-graph.graph.items =
    rw c.rows.ensures.rows at c.in_ok-graph.ensures in
    let echelon : IsEchelonOf c.args.field (c.args.part.now.width + c.args.part.now.width) c.in_ok-graph.graph.items
    c.in_ok-echelon.echelon.rows.items c.in_ok-echelon.echelon.leads.items =
    rw (c.deref.ensures.value, c.width-width.ensures) at c.in_ok-echelon.ensures in
    rw (c.basis_of.ensures, c.width.ensures) (kernel_basis c.args.field c.args.part.now.width c.args.images.now c.args.part.now.rows
    c.in_ok-graph.graph.items c.in_ok-echelon.echelon.rows.items c.in_ok-rests_of.field-0.items c.in_ok-echelon.echelon.leads.items
    c.in_ok-leads_from.field-0.items
    rows_of c.requires.images c.requires.many graph echelon c.position_of-start.result
    (rw c.deref-2.ensures.value at c.position_of-start.ensures.within)
    (rw (c.deref-2.ensures.value, c.width-width.ensures) at c.position_of-start.ensures.before)
    (rw (c.deref-2.ensures.value, c.width-width.ensures) at c.position_of-start.ensures.after)
    (rw (c.deref-3.ensures.value, c.width-width.ensures) at c.in_ok-rests_of.ensures) (rw c.deref-4.ensures.value at c.in_ok-leads_from.ensures.many)
    (rw (c.deref-4.ensures.value, c.width-width.ensures) at c.in_ok-leads_from.ensures.each))
