-- Steps of a reader, one after the other.
use Rattle.std.proofs.Common.{◌≡◌, ℕ, Bool, true, false, List, [], ◌∷◌, ◌++◌, Option, Some, None, Result, Err, refl, sym, ap}
use Rattle.std.proofs.Common.{◌∙◌, append_assoc}
use Rattle.std.proofs.lemmas.Bool.{false≢true}
use Rattle.line_reader.specs.Reading as cut
use Rattle.nop_types.specs.declared.header.Header.{Header}
use Rattle.schedule_text.specs.declared.event.Event.{Event}
use Rattle.schedule_text.specs.declared.next_error.NextError.{NextError}
use Rattle.schedule_text.specs.declared.next_error.NextError.TheVariants.{ReadFault, NoMemory}
use Rattle.schedule_text.specs.Cutting.{lines_of}
use Rattle.schedule_text.specs.Reading.{Reading, MayFollow, IsTurn, turn, turn_of, Reads, Takes, TakesOf}
use Rattle.schedule_text.specs.Stepping.{Answers, TakesFrom, reading}

-- of two lists that make the empty one
nil_right : (xs ys : List ℕ) → xs ++ ys ≡ [] → ys ≡ []
nil_right [] ys e = e
nil_right (x ∷ xs) ys e = absurd cc

nil_both : (xs ys : List ℕ) → xs ≡ [] → ys ≡ [] → xs ++ ys ≡ []
nil_both xs ys e f = rw (e, f) refl

-- where the middle has ended or not
by_ended : (b : Bool) {P : Type 0} → (b ≡ false → P) → (b ≡ true → P) → P
by_ended true f g = g refl
by_ended false f g = f refl

module _ (old mid new : Reading) (answer : Result (Option Event) NextError) where
  both : (one two middle left : List ℕ) → (middle ≡ [] → left ≡ []) → Takes old mid one middle (Err NoMemory)
      → Takes mid new two left answer → Takes old new (one ++ two) left answer
  both one two middle left less first second = record {
    end = λ going ended. by_ended mid.ended (λ not_yet. second.end not_yet ended) (λ was. less (first.end going was));
    after_end = λ was. (
      nil_both one two (first.after_end was).0
          (second.after_end (first.after_end was).1).0,
      (second.after_end (first.after_end was).1).1,
    );
    turn = λ ended more follows.
        let middle : MayFollow mid ended (two ++ more) = record {
          nothing = λ was. nil_both two more (second.after_end was).0 (follows.nothing (second.after_end was).1);
          end = λ was. follows.end (second.after_end was).1;
        } in
        let same : turn_of old ended (one ++ two ++ more) ≡ turn_of mid ended (two ++ more) =
        ap (turn_of old ended) (append_assoc one two more) ∙ first.turn ended (two ++ more) middle in
        rw same (second.turn ended more follows);
  }

  alone : (taken left : List ℕ) → Takes old mid taken left (Err NoMemory) → Answers mid new answer → Takes old new taken left answer
  alone taken left first second = record {
    end = λ going ended. first.end going (sym second.ended ∙ ended);
    after_end = λ was. ((first.after_end was).0, second.ended ∙ (first.after_end was).1);
    turn = λ ended more follows.
        let middle : MayFollow mid ended more =
        record { nothing = λ was. follows.nothing (second.ended ∙ was); end = λ was. follows.end (second.ended ∙ was) } in
        rw (first.turn ended more middle) (second.turn ended more follows);
  }

-- the same of a source that tells nothing
unobserved : (old new : Reading) (taken left : List ℕ) (answer : Result (Option Event) NextError) → Takes old new taken left answer
    → Takes old new taken [] answer
unobserved old new taken left answer takes = record { end = λ going ended. refl; after_end = takes.after_end; turn = takes.turn }

pub reads : (old new : Reading) (before left : Option (List ℕ)) (answer : Result (Option Event) NextError)
    → TakesFrom old new before left answer → Reads old new answer
unfolding TakesFrom Reads
reads old new None left answer from = from
reads old new (Some before) None answer from = elim from [ ]
reads old new (Some before) (Some left) answer from = (from.0, unobserved old new from.0 left answer from.2)

pub takes : (old new : Reading) (before left : Option (List ℕ)) (answer : Result (Option Event) NextError)
    → TakesFrom old new before left answer → TakesOf old new before left answer
unfolding TakesFrom
takes old new None left answer from = tt
takes old new (Some before) None answer from = elim from [ ]
takes old new (Some before) (Some left) answer from = from

pub takes_from : (old new : Reading) (before left : Option (List ℕ)) (answer : Result (Option Event) NextError)
    → TakesOf old new before left answer → Reads old new answer → TakesFrom old new before left answer
unfolding TakesFrom Reads
takes_from old new None left answer observed any = any
takes_from old new (Some before) None answer observed any = elim observed [ ]
takes_from old new (Some before) (Some left) answer observed any = observed

-- both steps may take bytes
pub then_takes : (old mid new : Reading) (answer : Result (Option Event) NextError) (before middle left : Option (List ℕ))
    → TakesFrom old mid before middle (Err NoMemory) → TakesFrom mid new middle left answer → TakesFrom old new before left answer
unfolding TakesFrom Reads
then_takes old mid new answer None middle left first second =
    let one = first.0 in
    let two = reads mid new middle left answer second in
    (one ++ two.0, both old mid new answer one two.0 [] [] (λ none. none) first.1 two.1)
then_takes old mid new answer (Some before) None left first second = elim first [ ]
then_takes old mid new answer (Some before) (Some middle) None first second = elim second [ ]
then_takes old mid new answer (Some before) (Some middle) (Some left) first second =
    let one = first.0 in
    let two = second.0 in (
      one ++ two,
      first.1 ∙ ap (λ (xs : List ℕ). one ++ xs) second.1
          ∙ sym (append_assoc one two left),
      both old mid new answer one two middle left (λ none. nil_right two left (sym second.1 ∙ none)) first.2 second.2,
    )

-- the second step takes none
pub then_answers : (old mid new : Reading) (answer : Result (Option Event) NextError) (before left : Option (List ℕ))
    → TakesFrom old mid before left (Err NoMemory) → Answers mid new answer → TakesFrom old new before left answer
unfolding TakesFrom
then_answers old mid new answer None left first second = (first.0, alone old mid new answer first.0 [] first.1 second)
then_answers old mid new answer (Some before) None first second = elim first [ ]
then_answers old mid new answer (Some before) (Some left) first second =
    (first.0, first.1, alone old mid new answer first.0 left first.2 second)

-- a step that takes nothing, and leaves what comes next
still : (r s : Reading) (left : List ℕ) (answer : Result (Option Event) NextError) → s.ended ≡ r.ended
    → ((ended : Bool) (more : List ℕ) → IsTurn s ended more answer (turn_of r ended more)) → Takes r s [] left answer
still r s left answer same turns = record {
  end = λ going ended. absurd (false≢true (sym going ∙ (sym same ∙ ended)));
  after_end = λ was. (refl, same ∙ was);
  turn = λ ended more follows. turns ended more;
}

pub stays : (r : Reading) (left : Option (List ℕ)) → TakesFrom r r left left (Err NoMemory)
unfolding TakesFrom
stays r None = ([], still r r [] (Err NoMemory) refl (λ ended more. refl))
stays r (Some left) = ([], refl, still r r left (Err NoMemory) refl (λ ended more. refl))

-- ---- what a reader of lines takes

module _ (header : Option Header) (old new : cut.Reading) where
  -- more bytes do not change what comes next
  same_turn : (taken : List ℕ) → cut.Grows old new taken → (ended : Bool) (more : List ℕ)
      → turn_of (reading header old) ended (taken ++ more) ≡ turn_of (reading header new) ended more
  same_turn taken grows ended more =
      rw (grows.line, grows.pending)
      (ap (λ (xs : List ℕ). turn header old.line (lines_of ended old.line xs)) (sym (append_assoc old.pending taken more)))

  grown : (taken left : List ℕ) (answer : Result (Option Event) NextError) → cut.Grows old new taken
      → (old.ended ≡ false → new.ended ≡ true → left ≡ [])
      → ((ended : Bool) (more : List ℕ)
      → IsTurn (reading header new) ended more answer (turn_of (reading header old) ended (taken ++ more)))
      → Takes (reading header old) (reading header new) taken left answer
  grown taken left answer grows end turns =
      record { end = end; after_end = grows.after_end; turn = λ ended more follows. turns ended more }

  by_source : (answer : Result (Option Event) NextError)
      → ((taken : List ℕ) → cut.Grows old new taken → (ended : Bool) (more : List ℕ)
      → IsTurn (reading header new) ended more answer (turn_of (reading header old) ended (taken ++ more)))
      → (before left : Option (List ℕ)) → cut.TakesFrom old new before left
      → TakesFrom (reading header old) (reading header new) before left answer
  unfolding TakesFrom
  by_source answer turns None left from =
      (from.taken, grown from.taken [] answer from.grows (λ going ended. refl) (turns from.taken from.grows))
  by_source answer turns (Some before) None from = absurd from.source
  by_source answer turns (Some before) (Some left) from =
      (from.taken, from.source, grown from.taken left answer from.grows from.end (turns from.taken from.grows))

  pub reached : (before left : Option (List ℕ)) → cut.TakesFrom old new before left
      → TakesFrom (reading header old) (reading header new) before left (Err NoMemory)
  reached before left from = by_source (Err NoMemory) same_turn before left from

  pub failed : (before left : Option (List ℕ)) → cut.TakesFrom old new before left
      → TakesFrom (reading header old) (reading header new) before left (Err ReadFault)
  failed before left from = by_source (Err ReadFault) same_turn before left from
