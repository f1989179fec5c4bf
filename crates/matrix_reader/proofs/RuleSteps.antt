-- How the answer to a rule comes from the answers to its parts.
use Rattle.std.proofs.Common.{◌≡◌, ℕ, List, [], ◌∷◌, ◌++◌, Option, Some, None, ◌∙◌}
use Rattle.refusals.specs.declared.Why.{Why}
use Rattle.matrix_reader.specs.Rules.{each_rule}
use Rattle.line_reader.proofs.Rules.{first_broken, first_kept}

-- one word more keeps its rule, or breaks it
pub each_more : (rule : List (List ℕ) → List ℕ → Option Why) (start earlier all words : List (List ℕ))
    (word : List ℕ) → each_rule rule start all ≡ each_rule rule earlier (word ∷ words) → rule earlier word ≡ None →
    each_rule rule start all ≡ each_rule rule (earlier ++ word ∷ []) words
each_more rule start earlier all words word same kept = same ∙ first_kept (rule earlier word) (each_rule rule (earlier ++ word ∷ []) words) kept

pub each_broken : (rule : List (List ℕ) → List ℕ → Option Why) (start earlier all words : List (List ℕ))
    (word : List ℕ) (why : Why) → each_rule rule start all ≡ each_rule rule earlier (word ∷ words) →
    rule earlier word ≡ Some why → each_rule rule start all ≡ Some why
each_broken rule start earlier all words word why same broken = same ∙ first_broken (rule earlier word) (each_rule rule (earlier ++ word ∷ []) words) why broken
