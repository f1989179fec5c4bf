-- Texts that are put one after the other.
use Rattle.std.proofs.Common.{◌≡◌, ℕ, ◌+◌, ◌<◌, List, [], ◌∷◌, ◌++◌, length, get_or, drop, drop-cons, add-one, append_assoc}
use Rattle.std.proofs.Common.{append-nil, Result, OnOk, IfErr, refl, ap, sym, subst, ◌∙◌, true, false}
use Rattle.port_io.specs.declared.ports.Sink.{Ghosts}
use Rattle.port_io.specs.declared.writing.WriteFault.{WriteFault}
use Rattle.text_writer.specs.Giving.{nothing_given, HasGiven, Gives, IsWritten}
use Rattle.text_writer.specs.Texts.{HasPut, Puts, PutsUpTo, Finishes}
use Rattle.text_writer.specs.declared.progress.Progress.{Progress}
use Rattle.text_writer.specs.declared.writer.TextWriter.{TextWriter}
use Rattle.text_writer.proofs.Giving.{given_nothing, given_written}

module _ {S : Type 0} {K : Ghosts S} where
  pub puts_nothing : {w : TextWriter S} → Puts K w w []
  puts_nothing {w} = record { same_sink = refl; behind = λ first front put. subst (HasPut K first w) (sym (append-nil front)) put }

  pub puts_is : {w v : TextWriter S} {x y : List ℕ} → x ≡ y → Puts K w v x → Puts K w v y
  puts_is {w} {v} {x} {y} e put = subst (Puts K w v) e put

  -- one text, and then another
  pub puts_then : {w v u : TextWriter S} {x y : List ℕ} → Puts K w v x → Puts K v u y → Puts K w u (x ++ y)
  puts_then {w} {v} {u} {x} {y} one two = record {
    same_sink = two.same_sink ∙ one.same_sink;
    behind = λ first front put. subst (HasPut K first u) (append_assoc front x y) (two.behind first (front ++ x) (one.behind first front put));
  }

  -- held, and not given yet
  pub puts_held : (w v : TextWriter S) (piece : List ℕ) → v.out ≡ w.out → v.progress ≡ w.progress → v.held ≡ w.held ++ piece → Puts K w v piece
  puts_held w v piece out progress held = record {
    same_sink = ap (λ o. o.ghost_name) out;
    behind = λ first front put. record {
      given = put.given;
      has = subst (λ p. HasGiven K first v.out.now p put.given) (sym progress) (subst (λ o. HasGiven K first o.now w.progress put.given) (sym out) put.has);
      order = ap (λ z. z ++ piece) put.order ∙ append_assoc put.given w.held piece ∙ ap (λ z. put.given ++ z) (sym held);
    };
  }

  -- what was held is given, and then the piece is held
  pub puts_holding : (w v : TextWriter S) (held piece : List ℕ) → held ≡ w.held → v.held ≡ piece → v.out.ghost_name ≡ w.out.ghost_name →
      Gives K w.out.now w.progress v.out.now v.progress held → Puts K w v piece
  puts_holding w v held piece was is same gives = record {
    same_sink = same;
    behind = λ first front put. record {
      given = put.given ++ held;
      has = gives first put.given put.has;
      order = ap (λ z. z ++ piece) (put.order ∙ ap (λ z. put.given ++ z) (sym was)) ∙ ap (λ z. (put.given ++ held) ++ z) (sym is);
    };
  }

  -- what was held is given, and then the piece is
  pub puts_passing : (w v : TextWriter S) (sink : S) (progress : Progress) (held piece : List ℕ) → held ≡ w.held → v.held ≡ [] →
      v.out.ghost_name ≡ w.out.ghost_name → Gives K w.out.now w.progress sink progress held → Gives K sink progress v.out.now v.progress piece →
      Puts K w v piece
  puts_passing w v sink progress held piece was empty same one two = record {
    same_sink = same;
    behind = λ first front put. record {
      given = put.given ++ held ++ piece;
      has = two first (put.given ++ held) (one first put.given put.has);
      order =
          ap (λ z. z ++ piece) (put.order ∙ ap (λ z. put.given ++ z) (sym was))
          ∙ sym (ap (λ z. (put.given ++ held ++ piece) ++ z) empty ∙ append-nil (put.given ++ held ++ piece));
    };
  }

  -- all that is held is given at the end
  pub put_written : (w : TextWriter S) (last : S) (progress : Progress) (held : List ℕ) (result : Result (Unit {0}) WriteFault) →
      held ≡ w.held → Gives K w.out.now w.progress last progress held → OnOk result (progress.failed ≡ false) →
      IfErr result (λ fault. (progress.failed ≡ true) × (fault.written ≡ progress.handed)) → Finishes K w last result
  put_written w last progress held result was gives off on = λ first text put.
      subst (λ z. IsWritten K first last z result) (ap (λ z. put.given ++ z) was ∙ sym put.order)
      (given_written first last progress (put.given ++ held) result (gives first put.given put.has) off on)

  -- nothing was put into a new writer
  pub put_new : (w : TextWriter S) → w.progress ≡ nothing_given → w.held ≡ [] → HasPut K w.out.now w []
  put_new w none empty = record {
    given = [];
    has = subst (λ p. HasGiven K w.out.now w.out.now p []) (sym none) (given_nothing w.out.now);
    order = sym empty;
  }

  -- a text that was put into a new writer is written at its end
  pub text_written : {first last : S} {w v : TextWriter S} {text : List ℕ} {result : Result (Unit {0}) WriteFault} →
      HasPut K first w [] → Puts K w v text → Finishes K v last result → IsWritten K first last text result
  text_written {first} {last} {w} {v} {text} {result} nothing puts finishes = finishes first text (puts.behind first [] nothing)

  -- how a loop over the pieces of a text begins, goes on and ends
  pub loop_begins : {w : TextWriter S} → (text : List ℕ) → PutsUpTo K w w text text
  loop_begins {w} text = record { done = []; puts = puts_nothing; split = refl }

  pub loop_goes_on : {w v u : TextWriter S} {text left x rest : List ℕ} → left ≡ x ++ rest →
      PutsUpTo K w v text left → Puts K v u x → PutsUpTo K w u text rest
  loop_goes_on {w} {v} {u} {text} {left} {x} {rest} e so_far put = record {
    done = so_far.done ++ x;
    puts = puts_then so_far.puts put;
    split = so_far.split ∙ ap (λ z. so_far.done ++ z) e ∙ sym (append_assoc so_far.done x rest);
  }

  pub loop_ends : {w v : TextWriter S} {text left : List ℕ} → left ≡ [] → PutsUpTo K w v text left → Puts K w v text
  loop_ends {w} {v} {text} {left} is so_far = puts_is (sym (so_far.split ∙ ap (λ z. so_far.done ++ z) is ∙ append-nil so_far.done)) so_far.puts

-- the next element of a list, and those behind it
pub drop_next : {A : Type 0} (xs : List A) (i : ℕ) (d : A) → i < length xs → drop i xs ≡ get_or xs i d ∷ drop (i + 1) xs
drop_next xs i d within = rw (add-one, drop-cons xs i d) refl
