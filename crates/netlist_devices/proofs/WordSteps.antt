-- Words that are read one by one.
use Rattle.std.proofs.Common.{◌≡◌, ℕ, ◌+◌, ◌<◌, true, false, ◌&&◌, List, [], ◌∷◌, ◌++◌, Bor, length, map, take, sym, ap, ◌∙◌, append_assoc, add-one, get_or}
use Rattle.std.specs.List.{list_all}
use Rattle.std.proofs.lemmas.List.{map_more, take-map}
use Rattle.std.proofs.lemmas.List.Folds.{list_all-map, list_all_at, list_all_more}
use Rattle.line_lexer.specs.Names.{is_node}

-- one word more is taken
pub take_one : (all seen left old : List (List ℕ)) (word : List ℕ) (m n : ℕ) → all ≡ seen ++ take m old →
    old ≡ word ∷ left → n + 1 ≡ m → all ≡ (seen ++ word ∷ []) ++ take n left
take_one all seen left old word m n whole step count =
    whole ∙ ap (λ words. seen ++ take m words) step ∙ ap (λ k. seen ++ take k (word ∷ left)) (sym count ∙ add-one n)
    ∙ sym (append_assoc seen (word ∷ []) (take n left))

-- what texts are
abbrev pub bytes_of : List (Bor (List ℕ)) → List (List ℕ)
bytes_of texts = map (λ text. text.now) texts

-- one text that is no node
pub no_node : (texts : List (Bor (List ℕ))) (i : ℕ) (d : Bor (List ℕ)) → i < length texts →
    is_node (get_or texts i d).now ≡ false → list_all is_node (bytes_of texts) ≡ false
no_node texts i d at bad =
    list_all-map is_node (λ text. text.now) texts ∙ list_all_at (λ (text : Bor (List ℕ)). is_node text.now) texts i d at bad

-- one node more
pub node_more : (texts : List (Bor (List ℕ))) (i : ℕ) (d : Bor (List ℕ)) → i < length texts →
    list_all is_node (take i (bytes_of texts)) ≡ true → is_node (get_or texts i d).now ≡ true →
    list_all is_node (take (i + 1) (bytes_of texts)) ≡ true
node_more texts i d at good here =
    ap (list_all is_node) (take-map (λ text. text.now) (i + 1) texts) ∙ list_all-map is_node (λ text. text.now) (take (i + 1) texts)
    ∙ list_all_more (λ (text : Bor (List ℕ)). is_node text.now) texts i d at
    ∙ ap (λ front. front && is_node (get_or texts i d).now)
    (sym (ap (list_all is_node) (take-map (λ text. text.now) i texts) ∙ list_all-map is_node (λ text. text.now)
    (take i texts)) ∙ good)
    ∙ here

pub bytes_more : (texts : List (Bor (List ℕ))) (i : ℕ) (d : Bor (List ℕ)) → i < length texts →
    take (i + 1) (bytes_of texts) ≡ take i (bytes_of texts) ++ (get_or texts i d).now ∷ []
bytes_more texts i d at =
    take-map (λ text. text.now) (i + 1) texts ∙ map_more (λ (text : Bor (List ℕ)). text.now) texts i d at
    ∙ ap (λ front. front ++ (get_or texts i d).now ∷ []) (sym (take-map (λ text. text.now) i texts))
