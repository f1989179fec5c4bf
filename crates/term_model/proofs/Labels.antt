-- Names of nodes and of devices, behind a word and a point, may stand in a model.
use Rattle.std.proofs.Common.{◌≡◌, ℕ, ◌+◌, ◌≤◌, Bool, true, false, not, ◌&&◌, ◌||◌, IsTrue, List, [], ◌∷◌, ◌++◌}
use Rattle.std.proofs.Common.{length, codes, nat_eq, refl, ap, ◌∙◌, arith, length-append, leb}
use Rattle.std.specs.List.{AllByRecursion, list_all}
use Rattle.std.proofs.lemmas.Bool.Decides.{nat_tests}
use Rattle.std.proofs.lemmas.List.Folds.{list_all-append}
use Rattle.std.proofs.lemmas.Bool.{le-leb, leb-true}
use Rattle.line_lexer.specs.Names.{begins_name, continues_name, is_name, is_node}
use Rattle.mixed_model.specs.Names.{is_label}
use Rattle.term_model.specs.Terms.{dotted}

-- no space and no tab
abbrev pub is_solid : ℕ → Bool
is_solid byte = not (nat_eq byte 32 || nat_eq byte 9)

solid_continue : (byte : ℕ) → continues_name byte ≡ true → is_solid byte ≡ true
solid_continue byte h = grind (arith, nat_tests)

pub all_solid : (bytes : List ℕ) → list_all continues_name bytes ≡ true → list_all is_solid bytes ≡ true
all_solid [] h = refl
all_solid (byte ∷ bytes) h = by (continues_name byte) refl h (λ rest. all_solid bytes rest)
  where
    by : (b : Bool) → continues_name byte ≡ b → (b && list_all continues_name bytes) ≡ true →
        (list_all continues_name bytes ≡ true → list_all is_solid bytes ≡ true) →
        list_all is_solid (byte ∷ bytes) ≡ true
    by true e rest more = rw (solid_continue byte e) (more rest)
    by false e rest more = let f : ⊥ = cc in absurd f

-- a text of 1 to 64 bytes, all of which continue a name
pub record IsPart (text : List ℕ) : Type 0 where
  pub some : 1 ≤ length text
  pub bytes : list_all continues_name text ≡ true
  pub short : length text ≤ 64

pub node-part : (node : List ℕ) → is_node node ≡ true → IsPart node
node-part node h = record {
  some = grind (arith, nat_tests);
  bytes = grind (arith, nat_tests);
  short = grind (arith, nat_tests);
}

pub begins-continues : (byte : ℕ) → begins_name byte ≡ true → continues_name byte ≡ true
begins-continues byte h = rw h refl

pub name-part : (name : List ℕ) → is_name name ≡ true → IsPart name
name-part [] h = let f : ⊥ = cc in absurd f
name-part (byte ∷ bytes) h =
    let first : begins_name byte ≡ true = grind (arith, nat_tests) in
    let others : list_all continues_name bytes ≡ true = grind (arith, nat_tests) in
    record {
      some = omega arith;
      bytes = rw (begins-continues byte first) others;
      short = grind (arith, nat_tests);
    }

part-label : (text : List ℕ) → IsPart text → IsTrue (is_label text)
part-label text part =
    let some : leb 1 (length text) ≡ true = le-leb 1 (length text) part.some in
    let few : leb (length text) 96 ≡ true = le-leb (length text) 96 (omega (arith, part.short)) in
    (λ t. some t && few t && all_solid text part.bytes t)

pub name_is_label : (name : List ℕ) → is_name name ≡ true → IsTrue (is_label name)
name_is_label name h = part-label name (name-part name h)

pub node_is_label : (node : List ℕ) → is_node node ≡ true → IsTrue (is_label node)
node_is_label node h = part-label node (node-part node h)

-- a word of at most 8 bytes, none of them a space or a tab
pub record IsWord (word : List ℕ) : Type 0 where
  pub solid : list_all is_solid word ≡ true
  pub short : length word ≤ 8

pub dotted-label : (word name : List ℕ) → IsWord word → IsPart name → IsTrue (is_label (dotted word name))
dotted-label word name good part =
    let long : length (dotted word name) ≡ length word + 1 + length name = length-append (word ++ codes ".") name
    ∙ ap (λ n. n + length name) (length-append word (codes ".")) in
    let some : leb 1 (length (dotted word name)) ≡ true = le-leb 1 (length (dotted word name)) (omega (arith, long)) in
    let few : leb (length (dotted word name)) 96 ≡ true = le-leb (length (dotted word name)) 96 (omega (arith, long, good.short, part.short)) in
    let word_solid : list_all is_solid (word ++ codes ".") ≡ true = list_all-append is_solid word (codes ".") ∙ ap (λ b. b && true) good.solid in
    let solid : list_all is_solid (dotted word name) ≡ true = list_all-append is_solid (word ++ codes ".") name
    ∙ (λ t. word_solid t && all_solid name part.bytes t) in
    (λ t. some t && few t && solid t)

-- a test of a word
abbrev pub is_good : List ℕ → Bool
is_good word = list_all is_solid word && leb (length word) 8

pub good-words : (words : List (List ℕ)) → list_all is_good words ≡ true → AllByRecursion IsWord words
good-words [] good = tt
good-words (word ∷ words) good = by (list_all is_solid word) refl (leb (length word) 8) refl good (good-words words)
  where
    by : (a : Bool) → list_all is_solid word ≡ a → (b : Bool) → leb (length word) 8 ≡ b →
        ((a && b) && list_all is_good words) ≡ true → (list_all is_good words ≡ true → AllByRecursion IsWord words) →
        AllByRecursion IsWord (word ∷ words)
    by false e b f all more = let g : ⊥ = cc in absurd g
    by true e false f all more = let g : ⊥ = cc in absurd g
    by true e true f all more = (record { solid = e; short = leb-true (length word) 8 f }, more all)
