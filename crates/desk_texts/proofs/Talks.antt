-- The replies to lines, one after another.
use Rattle.std.proofs.Common.{◌≡◌, ℕ, List, [], ◌∷◌, ◌++◌, length, append_assoc, append-nil, refl, sym, ap, subst, ◌∙◌}
use Rattle.std.proofs.Common.{Option, Some, None, MatchOption, Result, Ok, Err, OnOk}
use Rattle.mixed_model.specs.Models.{MixedModel}
use Rattle.edit_desk.specs.Desks.{IsReply}
use Rattle.edit_desk.specs.declared.reply.Reply.{Reply}
use Rattle.edit_desk.specs.declared.reply.Reply.TheVariants.{Changed, Nothing, Parts, Refused}
use Rattle.port_io.specs.declared.ports.Sink.{Ghosts}
use Rattle.text_writer.specs.Texts.{Puts}
use Rattle.text_writer.specs.declared.writer.TextWriter.{TextWriter}
use Rattle.text_writer.proofs.Putting.{puts_nothing, puts_then}
use Rattle.desk_texts.specs.Said.{IsSaid}
use Rattle.desk_texts.specs.Puttings.{PutsReply, PutsSaid}

-- there are as many models after a reply
pub reply-count : (p : ℕ) (old : List MixedModel) (line : List ℕ) (new : List MixedModel) (reply : Reply) → IsReply p old line new reply →
    length new ≡ length old
reply-count p old line new Nothing is = ap length is.2
reply-count p old line new (Refused why) is = ap length is.1
reply-count p old line new (Changed rank) is = is.replaced.count
reply-count p old line new (Parts rank parts) is = ap length is.1

-- the replies to the first of some lines were put, and what is said of the others then follows them
pub record HasSaid {S : Type 0} (K : Ghosts S) (p : ℕ) (first : List MixedModel) (lines : List (List ℕ)) (now : List MixedModel)
    (left : List (List ℕ)) (before after : TextWriter S) : Type 0 where
  pub done : List ℕ
  pub puts : Puts K before after done
  pub more : (rest : List ℕ) → IsSaid p now left rest → IsSaid p first lines (done ++ rest)
  pub count : length now ≡ length first

module _ {S : Type 0} {K : Ghosts S} where
  pub said-none : (p : ℕ) (first : List MixedModel) (lines : List (List ℕ)) (w : TextWriter S) → HasSaid K p first lines first lines w w
  said-none p first lines w = record { done = []; puts = puts_nothing; more = λ rest said. said; count = refl }

  pub said-more : (p : ℕ) (first : List MixedModel) (lines : List (List ℕ)) (now : List MixedModel) (left : List (List ℕ))
      (line : List ℕ) (next : List MixedModel) (others : List (List ℕ)) (w v u : TextWriter S) → left ≡ line ∷ others →
      HasSaid K p first lines now left w v → PutsReply K p now line next v u → HasSaid K p first lines next others w u
  said-more p first lines now left line next others w v u is so put = record {
    done = so.done ++ put.text;
    puts = puts_then so.puts put.puts;
    more = λ rest said. subst (IsSaid p first lines) (sym (append_assoc so.done put.text rest))
        (so.more (put.text ++ rest) (subst (λ ls. IsSaid p now ls (put.text ++ rest)) (sym is)
        (next, put.reply, put.text, rest, put.answers, put.own, said, refl)));
    count = put.count ∙ so.count;
  }

  pub said-all : (p : ℕ) (first : List MixedModel) (lines : List (List ℕ)) (now : List MixedModel) (left : List (List ℕ))
      (w v : TextWriter S) → left ≡ [] → HasSaid K p first lines now left w v → PutsSaid K p first lines w v
  said-all p first lines now left w v is so = record {
    text = so.done;
    said = subst (IsSaid p first lines) (append-nil so.done) (so.more [] (subst (λ ls. IsSaid p now ls []) (sym is) refl));
    puts = so.puts;
  }

-- what holds where a result is fine holds
pub of-ok : {T E : Type 0} {P : Type 0} (result : Result T E) (value : T) → result ≡ Ok value → OnOk result P → P
of-ok {T} {E} {P} (Ok other) value is holds = holds
of-ok {T} {E} {P} (Err error) value is holds = let f : ⊥ = cc in absurd f

-- what holds of something that is there holds
pub of-some : {T : Type 0} (A : Type 0) (P : T → Type 0) (option : Option T) (value : T) → option ≡ Some value → MatchOption option A P → P value
of-some A P None value is holds = let f : ⊥ = cc in absurd f
of-some A P (Some other) value is holds = let same : other ≡ value = cc in subst P same holds
