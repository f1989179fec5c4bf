-- Each size has a made model.
use Rattle.std.proofs.Common.{◌≡◌, ℕ, zero, suc, ◌+◌, ◌/◌, ◌%◌, ◌<◌, ◌≤◌, Bool, true, false, not, ◌||◌, nat_eq, if◌then◌else◌}
use Rattle.std.proofs.Common.{length, Option, Some, None, unwrap_or, refl, ap, sym, ◌∙◌, arith}
use Rattle.std.proofs.Math.Nat.{mod-lt}
use Rattle.std.specs.Option.{option_and_then}
use Rattle.made_models.specs.MadeModels.{constant_for, first_number, is_symbol_number, made_constant, made_symbol, numbered_names}
use Rattle.made_models.proofs.NameLaws.{numbered-label, numbered_names-length, numbered_names-new}
use Rattle.mixed_model.specs.Models.{IsModel, MixedModel, constant_at, constant_of}
use Rattle.mixed_model.specs.Names.{IsNameList}
use Rattle.mixed_model.proofs.Making.{Has, model_made}
use Rattle.mixed_model.proofs.ModelLaws.{constant_of-None}
use Rattle.mixed_model.proofs.NameLaws.{IsNameList-push, no_names}
use Rattle.existence_laws.specs.Making.{EachSizeHasAMadeModel, HasMade}

names-listed : (letter : ℕ) → not (nat_eq letter 32 || nat_eq letter 9) ≡ true → (n : ℕ) → n ≤ 400 → IsNameList (numbered_names letter n)
names-listed letter solid zero few = no_names
names-listed letter solid (suc n) few = IsNameList-push (numbered_names letter n) _ (names-listed letter solid n (omega (arith, few)))
    (numbered-label letter (n + 1) solid (omega (arith, few))) (numbered_names-new letter n n (omega arith) (omega (arith, few)))
    (omega (arith, few, numbered_names-length letter n))

-- a constant that a number makes is one from 1 to 65,520
record IsLow (o : Option ℕ) : Type 0 where
  pub positive : (c : ℕ) → o ≡ Some c → 0 < c
  pub few : unwrap_or o 0 ≤ 65520

constant-low : (number : ℕ) (b : Bool) → is_symbol_number number ≡ b → IsLow (if b then None else Some (number / 4 % 65520 + 1))
constant-low number true is = record {
  positive = λ c e. let f : ◌≡◌ {A = Option ℕ} None (Some c) = e in absurd cc;
  few = omega arith;
}
constant-low number false is = record {
  positive = λ c e. let same : number / 4 % 65520 + 1 ≡ c = ap (λ o. unwrap_or o 0) e in omega (arith, same);
  few = omega (arith, mod-lt (number / 4) {m = 65520} (omega arith));
}

made-low : (o : Option ℕ) → IsLow (option_and_then constant_for o)
made-low None = record {
  positive = λ c e. let f : ◌≡◌ {A = Option ℕ} None (Some c) = e in absurd cc;
  few = omega arith;
}
made-low (Some number) = constant-low number (is_symbol_number number) refl

-- the constant of a model is told by its value
constant-told : (p : ℕ) (model : MixedModel) → IsModel p model → (i j : ℕ) (o : Option ℕ) → IsLow o → constant_at model i j ≡ unwrap_or o 0 →
    constant_of model i j ≡ o
constant-told p model is i j None low same = constant_of-None p model is i j same
constant-told p model is i j (Some c) low same = go (constant_of model i j) refl
  where
    go : (o : Option ℕ) → constant_of model i j ≡ o → constant_of model i j ≡ Some c
    go None e = absurd (omega (arith, low.positive c refl, same, ap (λ x. unwrap_or x 0) e))
    go (Some d) e = e ∙ ap Some (sym (ap (λ x. unwrap_or x 0) e) ∙ same)

pub has-made : EachSizeHasAMadeModel
has-made p big n size = go
    (model_made p (numbered_names 101 n) (numbered_names 120 n) (λ i j. unwrap_or (made_constant n i j) 0) (made_symbol n)
    (names-listed 101 refl n size.most) (names-listed 120 refl n size.most)
    (λ i j il jl. omega (arith, big, (made-low (first_number n i j 3)).few)))
  where
    e-long : length (numbered_names 101 n) ≡ n
    e-long = numbered_names-length 101 n

    x-long : length (numbered_names 120 n) ≡ n
    x-long = numbered_names-length 120 n

    go : (model : MixedModel) × Has p (numbered_names 101 n) (numbered_names 120 n)
        (λ i j. unwrap_or (made_constant n i j) 0) (made_symbol n) model → HasMade p n
    go (model, has) = record {
      model = model;
      is_model = has.is_model;
      made = record {
        equations = has.equations_are;
        unknowns = has.unknowns_are;
        constants = λ i j il jl. constant-told p model has.is_model i j (made_constant n i j) (made-low (first_number n i j 3))
            (has.constants_are i j (omega (arith, il, e-long)) (omega (arith, jl, x-long)));
        symbols = λ i j il jl. has.symbols_are i j (omega (arith, il, e-long)) (omega (arith, jl, x-long));
      };
    }
