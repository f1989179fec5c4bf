use Rattle.std.proofs.Common.{◌<◌, length, subst, sym}
use Rattle.minimiser_lattice.specs.Views.{parts_in}
use Rattle.minimiser_lattice.specs.declared.lattice.Part.TheVariants.{First, Block, Last}
use Rattle.ccf_builder.specs.Placings.{ListsPart, ListsParts}
use Rattle.ccf_builder.proofs.canonical.Parts.of.Goals as goal

pub returns : goal.returns
returns c =
    let columns = c.args.columns.now in
    let lists = c.in_ok-lists.lists in
    let are : ListsParts columns (length columns) (parts_in c.args.lattice.now).blocks lists =
    subst (λ n. ListsParts columns (length columns) n lists) c.blocks-2.ensures c.in_ok-lists.ensures in
    let blocks = c.in_ok-blocks_of.ensures in
    record {
      first = subst (ListsPart columns First) (sym c.from_vec.ensures) are.first;
      count = blocks.count;
      columns_are = λ k d kb. subst (ListsPart columns (Block k)) (sym ((blocks.blocks k d kb).columns lists.first))
          (are.blocks_are k lists.first (subst (λ n. k < n) blocks.count kb));
      lower = λ k d kb. (blocks.blocks k d kb).lower;
      last = subst (ListsPart columns Last) (sym c.from_vec-2.ensures) are.last;
    }
