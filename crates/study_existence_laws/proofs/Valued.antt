-- Each model has values with which it reaches its rank.
use Rattle.std.proofs.Common.{◌≡◌, ℕ, List, [], ◌∷◌, length, map, refl, ap, sym, subst, ◌∙◌, arith}
use Rattle.mixed_matrices.specs.StructuralRanks.{IsStructuralRank}
use Rattle.mixed_pair_laws.proofs.GreatestRanks.{mixed-rank_exists}
use Rattle.value_list_laws.specs.ListedValues.{IsFirstReachingList}
use Rattle.value_list_laws.proofs.Listed.{one-answer}
use Rattle.symbol_places.specs.Places.{AreSymbolPlaces}
use Rattle.symbol_places.specs.declared.places.SymbolPlace.{SymbolPlace}
use Rattle.study_answers.specs.Values.{numbers_at}
use Rattle.study_answers.specs.declared.values.ValueAt.{ValueAt}
use Rattle.study_existence_laws.specs.HasValues.{EachModelHasValues, HasValues}
use Rattle.study_existence_laws.proofs.ListedPlaces.{places-listed}

-- each number at its place
pub record AreNumbersAt (places : List SymbolPlace) (numbers : List ℕ) : Type 0 where
  pub values : List (ValueAt ℕ)
  pub places_are : map (λ at. at.place) values ≡ places
  pub numbers_are : numbers_at (λ value. value) values ≡ numbers

pub numbers-placed : (places : List SymbolPlace) (numbers : List ℕ) → length numbers ≡ length places → AreNumbersAt places numbers
numbers-placed [] [] count = record { values = []; places_are = refl; numbers_are = refl }
numbers-placed [] (number ∷ numbers) count = absurd (omega (arith, count))
numbers-placed (place ∷ places) [] count = absurd (omega (arith, count))
numbers-placed (place ∷ places) (number ∷ numbers) count = go (numbers-placed places numbers (omega (arith, count)))
  where
    go : AreNumbersAt places numbers → AreNumbersAt (place ∷ places) (number ∷ numbers)
    go rest = record {
      values = record { place = place; value = number } ∷ rest.values;
      places_are = ap (λ list. place ∷ list) rest.places_are;
      numbers_are = ap (λ list. number ∷ list) rest.numbers_are;
    }

pub has-values : EachModelHasValues
has-values p prime M = go (mixed-rank_exists p prime M) (places-listed M) (one-answer p prime M)
  where
    go : (r : ℕ) × IsStructuralRank p M r → (places : List SymbolPlace) × AreSymbolPlaces M places →
        (list : List ℕ) × IsFirstReachingList p M list × ((other : List ℕ) → IsFirstReachingList p M other → other ≡ list) → HasValues p M
    go (r, rank) (places, are) (list, first, _) = told (numbers-placed places list (first.reaching.length ∙ sym are.count))
      where
        told : AreNumbersAt places list → HasValues p M
        told placed = record {
          told = record { rank = r; values = placed.values };
          are = record {
            rank = rank;
            places = subst (AreSymbolPlaces M) (sym placed.places_are) are;
            first = subst (IsFirstReachingList p M) (sym placed.numbers_are) first;
          };
        }
