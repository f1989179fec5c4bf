use Rattle.std.proofs.Common.{◌≡◌, ◌<◌, ℕ, Bool}
use Rattle.equation_matroid_laws.proofs.Repairs.{choice-unique, choice_exists}
use Rattle.equation_matroid_laws.specs.GreedyChoices.{IsGreedyChoice}
use Rattle.equation_matroid_laws.proofs.greedy_laws.there_is_one_greedy_choice.Goals as goal

pub returns : goal.returns
returns c p prime M before X = go (choice_exists p prime M before X)
  where
    go : (K : ℕ → Bool) × IsGreedyChoice p M before X K →
        (K : ℕ → Bool) × IsGreedyChoice p M before X K × ((L : ℕ → Bool) → IsGreedyChoice p M before X L → (e : ℕ) → e < M.rows → L e ≡ K e)
    go (K, choice) = (K, choice, λ L other e el. choice-unique p prime M before X L K other choice e el)
