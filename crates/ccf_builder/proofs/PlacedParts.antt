-- What the lists of each part tell of one part.
use Rattle.std.proofs.Common.{◌≡◌, ℕ, ◌<◌, List, [], length, sym, subst}
use Rattle.minimiser_lattice.specs.Parts.{PlaceParts}
use Rattle.minimiser_lattice.specs.declared.lattice.Part.{Part}
use Rattle.minimiser_lattice.specs.declared.lattice.Part.TheVariants.{First, Block, Last}
use Rattle.cert_text.specs.declared.part.CcfPart.{CcfPart}
use Rattle.cert_text.specs.declared.part.CcfBlock.{CcfBlock}
use Rattle.ccf_builder.specs.declared.canonical.Block.{Block as Columns}
use Rattle.ccf_builder.specs.declared.canonical.Parts.{Parts}
use Rattle.ccf_builder.specs.declared.part_lists.PartLists.{PartLists}
use Rattle.ccf_builder.specs.Placings.{HasBlock, HasPart, IsBlockOf, ListsColumns, ListsLower, ListsPart, ListsParts, Placing}

pub listed-same : (seen parts : List Part) (b blocks : ℕ) (lists : PartLists) → seen ≡ parts → b ≡ blocks →
    ListsParts seen (length seen) b lists → ListsParts parts (length parts) blocks lists
listed-same seen parts b blocks lists same many are =
    subst (λ n. ListsParts parts (length parts) n lists) many (subst (λ s. ListsParts s (length s) b lists) same are)

module _ (v : PlaceParts) (placing : Placing) (parts : Parts) (q_rows t_rows : PartLists)
    (columns_are : ListsColumns v placing.columns parts)
    (q_are : ListsParts placing.q_rows (length placing.q_rows) v.blocks q_rows)
    (t_are : ListsParts placing.t_rows (length placing.t_rows) v.blocks t_rows) where
  pub has-first : (c : CcfPart) → c ≡ record {
    columns = parts.first;
    q_rows = q_rows.first.items;
    t_rows = t_rows.first.items;
  } → HasPart placing First c
  has-first c is = subst (HasPart placing First) (sym is) (record { columns = columns_are.first; q_rows = q_are.first; t_rows = t_are.first })

  pub has-last : (c : CcfPart) → c ≡ record {
    columns = parts.last;
    q_rows = q_rows.last.items;
    t_rows = t_rows.last.items;
  } → HasPart placing Last c
  has-last c is = subst (HasPart placing Last) (sym is) (record { columns = columns_are.last; q_rows = q_are.last; t_rows = t_are.last })

  no_block : Columns
  no_block = record { columns = []; lower = [] }

  pub has-block : (k : ℕ) (block : CcfBlock) → k < length parts.blocks.items →
      IsBlockOf parts.blocks.items q_rows.blocks.items t_rows.blocks.items k block → HasBlock placing v k block
  has-block k block kb is =
      let low : k < v.blocks = subst (λ n. k < n) columns_are.count kb in
      record {
        part = record {
          columns = subst (ListsPart placing.columns (Block k)) (sym (is.columns no_block)) (columns_are.columns_are k no_block kb);
          q_rows = subst (ListsPart placing.q_rows (Block k)) (sym (is.q_rows q_rows.first)) (q_are.blocks_are k q_rows.first low);
          t_rows = subst (ListsPart placing.t_rows (Block k)) (sym (is.t_rows t_rows.first)) (t_are.blocks_are k t_rows.first low);
        };
        lower = subst (ListsLower v k) (sym (is.lower no_block)) (columns_are.lower k no_block kb);
      }
