use Rattle.std.proofs.Common.{◌<◌, ◌∙◌, length, slice_index_or, subst}
use Rattle.minimiser_lattice.specs.Views.{parts_in}
use Rattle.ccf_builder.specs.Placings.{ListsColumns, ListsParts, PlacesRows, Placing}
use Rattle.ccf_builder.proofs.PlacedParts.{has-block, has-first, has-last, listed-same}
use Rattle.ccf_builder.proofs.printed_parts.parts_of.Goals as goal

pub returns : goal.returns
returns c =
    let v = parts_in c.args.lattice.now in
    let placing : Placing = record {
      columns = c.in_ok-column_places.column_places.items;
      q_rows = c.in_ok-q_places.q_places.items;
      t_rows = c.in_ok-t_places.t_places.items;
    } in
    let b = c.blocks-blocks.result in
    let many = c.blocks-blocks.ensures in
    let parts = c.in_ok-parts.parts in
    let q_rows = c.in_ok-q_lists.q_lists in
    let t_rows = c.in_ok-t_lists.t_lists in
    let columns_are : ListsColumns v placing.columns parts =
    subst (λ places. ListsColumns v places parts) c.deref-5.ensures.value c.in_ok-parts.ensures in
    let q_are : ListsParts placing.q_rows (length placing.q_rows) v.blocks q_rows =
    listed-same c.deref-6.result.now placing.q_rows b v.blocks q_rows c.deref-6.ensures.value many c.in_ok-q_lists.ensures in
    let t_are : ListsParts placing.t_rows (length placing.t_rows) v.blocks t_rows =
    listed-same c.deref-7.result.now placing.t_rows b v.blocks t_rows c.deref-7.ensures.value many c.in_ok-t_lists.ensures in
    let blocks = c.in_ok-blocks_of in
    record {
      placing = placing;
      columns = c.in_ok-column_places.ensures;
      q_are = subst (λ base. PlacesRows c.args.q_rows base placing.columns placing.q_rows) c.deref.ensures.value
          (subst (λ of. PlacesRows c.args.q_rows c.deref.result.now of placing.q_rows) c.deref-2.ensures.value c.in_ok-q_places.ensures);
      t_are = subst (λ mates. PlacesRows c.args.t_rows mates placing.columns placing.t_rows) c.deref-3.ensures.value
          (subst (λ of. PlacesRows c.args.t_rows c.deref-3.result.now of placing.t_rows) c.deref-4.ensures.value c.in_ok-t_places.ensures);
      first_is = has-first v placing parts q_rows t_rows columns_are q_are t_are c.part_with.result c.part_with.ensures;
      count = blocks.ensures.count ∙ columns_are.count;
      blocks_are = λ k d kl. has-block v placing parts q_rows t_rows columns_are q_are t_are k (slice_index_or blocks.field-0 k d)
          (subst (λ n. k < n) blocks.ensures.count kl) (blocks.ensures.blocks k d kl);
      last_is = has-last v placing parts q_rows t_rows columns_are q_are t_are c.part_with-2.result c.part_with-2.ensures;
    }
