-- Who was told that a number is noted has it from then on.
use Rattle.std.proofs.Common.{◌≡◌, ℕ, zero, suc, ◌+◌, ◌<◌, Bool, true, false, cond, List, [], ◌∷◌, ◌++◌, length, Option, Some, None, refl}
use Rattle.std.proofs.Common.{sym, ap, ◌∙◌, subst, arith, eqb-true, eq-eqb, inl, inr}
use Rattle.std.specs.Prelude.{◌==◌, ◌&&◌, ◌||◌, count_by, find, option_map, is_some, slice_get}
use Rattle.std.proofs.lemmas.Bool.{and_parts}
use Rattle.nop_types.specs.declared.output.Actor.{Actor}
use Rattle.nop_types.specs.declared.output.Actor.TheVariants.{Replica, Sequencer, Client, Controller, Observer}
use Rattle.lemmas.proofs.Places.{slice_get-push_cases}
use Rattle.admission.proofs.Counted.{count_by-cons}
use Rattle.admission.specs.declared.claim.Claim.{Claim}
use Rattle.admission.specs.declared.greeting.Greeting.{Greeting}
use Rattle.admission.specs.declared.greeting.Word.{Word}
use Rattle.admission.specs.declared.greeting.Word.TheVariants as words
use Rattle.admission.specs.Actors.{actor_named, same_actor}
use Rattle.admission.specs.Registries.{Claims, answered, answered_by, has_room, is_question, judged, may_by, may_have, none_noted}
use Rattle.admission.specs.Registries.{process_of}
use Rattle.admission.specs.Questions.{Life, NotedByMost, Question, after, answer, is_named, is_noted, life_tells, tells, was_told}

-- ---- actors that are the same

pub same_actor-true : (a b : Actor) → same_actor a b ≡ true → a ≡ b
same_actor-true (Replica i) (Replica j) e = ap Replica (eqb-true i j e)
same_actor-true (Sequencer i) (Sequencer j) e = ap Sequencer (eqb-true i j e)
same_actor-true (Client i) (Client j) e = ap Client (eqb-true i j e)
same_actor-true (Controller i) (Controller j) e = ap Controller (eqb-true i j e)
same_actor-true (Observer i) (Observer j) e = ap Observer (eqb-true i j e)
same_actor-true a b e = absurd cc

pub same_actor-refl : (a : Actor) → same_actor a a ≡ true
same_actor-refl (Replica i) = eq-eqb i i refl
same_actor-refl (Sequencer i) = eq-eqb i i refl
same_actor-refl (Client i) = eq-eqb i i refl
same_actor-refl (Controller i) = eq-eqb i i refl
same_actor-refl (Observer i) = eq-eqb i i refl

-- ---- a question that only asks

cond_keeps : (b : Bool) (x y : Claims × Option Word) (r : Claims) → x.0 ≡ r → y.0 ≡ r → (cond b x y).0 ≡ r
cond_keeps true x y r e f = e
cond_keeps false x y r e f = f

judged_keeps : (may : Bool) (r : Claims) (a : Actor) (p : ℕ) → (judged may r a p words.Ask).0 ≡ r
judged_keeps true r a p = refl
judged_keeps false r a p = refl

asked_by : (o : Option Actor) (r : Claims) (g : Greeting) → g.word ≡ words.Ask → (answered_by r o g).0 ≡ r
asked_by None r g e = refl
asked_by (Some a) r g e =
    let may = may_have r a g.process in
    let kept : (judged may r a g.process g.word).0 ≡ r =
    subst (λ (w : Word). (judged may r a g.process w).0 ≡ r) (sym e) (judged_keeps may r a g.process) in
    cond_keeps (g.digest == r.digest) (judged may r a g.process g.word)
    (cond (is_question g.word) (r, Some words.Foreign) (r, None)) r kept
    (cond_keeps (is_question g.word) (r, Some words.Foreign) (r, None) r refl refl)

pub asks_note_nothing : (r : Claims) (source : Actor) (g : Greeting) → g.word ≡ words.Ask → (answered r source g).0 ≡ r
unfolding answered
asks_note_nothing r source g e = asked_by (actor_named source g.number) r g e

-- ---- what is found in a list and in a longer one

stays_at : (b : Bool) (g : Claim → Bool) (c d : Claim) (cs more : List Claim) → (find g cs ≡ Some d → find g (cs ++ more) ≡ Some d)
    → cond b (Some c) (find g cs) ≡ Some d → cond b (Some c) (find g (cs ++ more)) ≡ Some d
stays_at true g c d cs more rest e = e
stays_at false g c d cs more rest e = rest e

find_stays : (g : Claim → Bool) (cs more : List Claim) (d : Claim) → find g cs ≡ Some d → find g (cs ++ more) ≡ Some d
find_stays g [] more d e = absurd cc
find_stays g (c ∷ cs) more d e = stays_at (g c) g c d cs more (find_stays g cs more d) e

pushed_at : (b : Bool) (g : Claim → Bool) (c d : Claim) (cs : List Claim)
    → (find g cs ≡ None → find g (cs ++ d ∷ []) ≡ find g (d ∷ [])) → cond b (Some c) (find g cs) ≡ None
    → cond b (Some c) (find g (cs ++ d ∷ [])) ≡ find g (d ∷ [])
pushed_at true g c d cs rest e = absurd cc
pushed_at false g c d cs rest e = rest e

find_pushed : (g : Claim → Bool) (cs : List Claim) (d : Claim) → find g cs ≡ None → find g (cs ++ d ∷ []) ≡ find g (d ∷ [])
find_pushed g [] d e = refl
find_pushed g (c ∷ cs) d e = pushed_at (g c) g c d cs (find_pushed g cs d) e

fails_at : (b : Bool) (g : Claim → Bool) (c : Claim) (cs : List Claim) → g c ≡ b → cond b (Some c) (find g cs) ≡ None
    → (g c ≡ false) × (find g cs ≡ None)
fails_at true g c cs t e = absurd cc
fails_at false g c cs t e = (t, e)

-- where none is found, none passes
none_passes : (g : Claim → Bool) (cs : List Claim) (i : ℕ) (c : Claim) → find g cs ≡ None → slice_get cs i ≡ Some c → g c ≡ true → ⊥
none_passes g [] i c none is t = cc
none_passes g (d ∷ ds) zero c none is t =
    let same : d ≡ c = cc in
    let fails = (fails_at (g d) g d ds refl none).0 in
    let passes : g d ≡ true = subst (λ (x : Claim). g x ≡ true) (sym same) t in
    cc
none_passes g (d ∷ ds) (suc i) c none is t = none_passes g ds i c (fails_at (g d) g d ds refl none).1 is t

-- ---- the process of an actor

abbrev is_of : Actor → Claim → Bool
is_of a c = same_actor c.actor a

abbrev process : Option Claim → Option ℕ
process o = option_map (λ c. c.process) o

found_claim : (o : Option Claim) (p : ℕ) → process o ≡ Some p → (c : Claim) × (o ≡ Some c) × (c.process ≡ p)
found_claim None p e = absurd cc
found_claim (Some c) p e = (c, refl, cc)

no_claim : (o : Option Claim) → process o ≡ None → o ≡ None
no_claim None e = refl
no_claim (Some c) e = absurd cc

claims_stay : (cs more : List Claim) (a : Actor) (p : ℕ) → process_of cs a ≡ Some p → process_of (cs ++ more) a ≡ Some p
claims_stay cs more a p e =
    let c = found_claim (find (is_of a) cs) p e in
    ap process (find_stays (is_of a) cs more c.0 c.1) ∙ ap Some c.2

only_by : (b : Bool) (c : Claim) → b ≡ true → process (cond b (Some c) None) ≡ Some c.process
only_by true c e = refl
only_by false c e = absurd cc

claim_pushed : (cs : List Claim) (a : Actor) (p : ℕ) → process_of cs a ≡ None
    → process_of (cs ++ record { actor = a; process = p } ∷ []) a ≡ Some p
claim_pushed cs a p e =
    let n : Claim = record { actor = a; process = p } in
    ap process (find_pushed (is_of a) cs n (no_claim (find (is_of a) cs) e)) ∙ only_by (same_actor a a) n (same_actor-refl a)

kept_if : (o : Option ℕ) (cs more : List Claim) (a : Actor) (p : ℕ) → process_of cs a ≡ Some p
    → process_of (cond (is_some o) cs (cs ++ more)) a ≡ Some p
kept_if None cs more a p e = claims_stay cs more a p e
kept_if (Some k) cs more a p e = e

keeps_cond : (b : Bool) (x y : Claims × Option Word) (a : Actor) (p : ℕ) → process_of x.0.noted a ≡ Some p → process_of y.0.noted a ≡ Some p
    → process_of (cond b x y).0.noted a ≡ Some p
keeps_cond true x y a p e f = e
keeps_cond false x y a p e f = f

judged_stay : (may : Bool) (w : Word) (r : Claims) (b a : Actor) (q p : ℕ) → process_of r.noted a ≡ Some p
    → process_of (judged may r b q w).0.noted a ≡ Some p
judged_stay true words.Claim r b a q p e = kept_if (process_of r.noted b) r.noted (record { actor = b; process = q } ∷ []) a p e
judged_stay true words.Ask r b a q p e = e
judged_stay true words.Free r b a q p e = e
judged_stay true words.Noted r b a q p e = e
judged_stay true words.Taken r b a q p e = e
judged_stay true words.Foreign r b a q p e = e
judged_stay false words.Claim r b a q p e = e
judged_stay false words.Ask r b a q p e = e
judged_stay false words.Free r b a q p e = e
judged_stay false words.Noted r b a q p e = e
judged_stay false words.Taken r b a q p e = e
judged_stay false words.Foreign r b a q p e = e

answered_stays : (o : Option Actor) (r : Claims) (g : Greeting) (a : Actor) (p : ℕ) → process_of r.noted a ≡ Some p
    → process_of (answered_by r o g).0.noted a ≡ Some p
answered_stays None r g a p e = e
answered_stays (Some b) r g a p e =
    let may = may_have r b g.process in
    keeps_cond (g.digest == r.digest) (judged may r b g.process g.word)
    (cond (is_question g.word) (r, Some words.Foreign) (r, None)) a p
    (judged_stay may g.word r b a g.process p e)
    (keeps_cond (is_question g.word) (r, Some words.Foreign) (r, None) a p e e)

pub question_keeps : (r : Claims) (q : Question) (a : Actor) (p : ℕ) → process_of r.noted a ≡ Some p
    → process_of (answer r q).0.noted a ≡ Some p
unfolding answered
question_keeps r q a p e = answered_stays (actor_named q.source q.greeting.number) r q.greeting a p e

pub questions_keep : (r : Claims) (qs : List Question) (a : Actor) (p : ℕ) → process_of r.noted a ≡ Some p
    → process_of (after r qs).noted a ≡ Some p
questions_keep r [] a p e = e
questions_keep r (q ∷ qs) a p e = questions_keep (answer r q).0 qs a p (question_keeps r q a p e)

-- ---- who is told has it

noted_now : (o : Option ℕ) (room : Bool) (cs : List Claim) (a : Actor) (p : ℕ) → process_of cs a ≡ o → may_by o room p ≡ true
    → process_of (cond (is_some o) cs (cs ++ record { actor = a; process = p } ∷ [])) a ≡ Some p
noted_now None room cs a p t may = claim_pushed cs a p t
noted_now (Some k) room cs a p t may = t ∙ ap Some (eqb-true k p may)

judged_tells : (may : Bool) (w : Word) (r : Claims) (a : Actor) (p : ℕ) → may_have r a p ≡ may → is_noted (judged may r a p w).1 ≡ true
    → process_of (judged may r a p w).0.noted a ≡ Some p
judged_tells true words.Claim r a p m e = noted_now (process_of r.noted a) (has_room r a) r.noted a p refl m
judged_tells true words.Ask r a p m e = absurd cc
judged_tells true words.Free r a p m e = absurd cc
judged_tells true words.Noted r a p m e = absurd cc
judged_tells true words.Taken r a p m e = absurd cc
judged_tells true words.Foreign r a p m e = absurd cc
judged_tells false words.Claim r a p m e = absurd cc
judged_tells false words.Ask r a p m e = absurd cc
judged_tells false words.Free r a p m e = absurd cc
judged_tells false words.Noted r a p m e = absurd cc
judged_tells false words.Taken r a p m e = absurd cc
judged_tells false words.Foreign r a p m e = absurd cc

no_note : (b : Bool) (r : Claims) → is_noted (cond {A = Claims × Option Word} b (r, Some words.Foreign) (r, None)).1 ≡ true → ⊥
no_note true r e = cc
no_note false r e = cc

tells_cond : (b : Bool) (x y : Claims × Option Word) (a : Actor) (p : ℕ) → (is_noted x.1 ≡ true → process_of x.0.noted a ≡ Some p)
    → (is_noted y.1 ≡ true → ⊥) → is_noted (cond b x y).1 ≡ true → process_of (cond b x y).0.noted a ≡ Some p
tells_cond true x y a p f g e = f e
tells_cond false x y a p f g e = absurd (g e)

answered_tells : (o : Option Actor) (r : Claims) (g : Greeting) (a : Actor) (p : ℕ) → is_named o a ≡ true → g.process ≡ p
    → is_noted (answered_by r o g).1 ≡ true → process_of (answered_by r o g).0.noted a ≡ Some p
answered_tells None r g a p n s e = absurd cc
answered_tells (Some b) r g a p n s e =
    let same : b ≡ a = same_actor-true b a n in
    let may = may_have r b g.process in
    subst (λ (x : Actor). process_of (answered_by r (Some b) g).0.noted x ≡ Some p) same
    (tells_cond (g.digest == r.digest) (judged may r b g.process g.word)
    (cond (is_question g.word) (r, Some words.Foreign) (r, None)) b p
    (λ t. judged_tells may g.word r b g.process refl t ∙ ap Some s) (no_note (is_question g.word) r) e)

told_now : (r : Claims) (q : Question) (a : Actor) (p : ℕ) → tells r q a p ≡ true → process_of (answer r q).0.noted a ≡ Some p
unfolding answered
told_now r q a p e =
    let o = actor_named q.source q.greeting.number in
    let one = and_parts (is_named o a) ((q.greeting.process == p) && is_noted (answered_by r o q.greeting).1) e in
    let two = and_parts (q.greeting.process == p) (is_noted (answered_by r o q.greeting).1) one.1 in
    answered_tells o r q.greeting a p one.0 (eqb-true q.greeting.process p two.0) two.1

either : (b : Bool) (r : Claims) (q : Question) (qs : List Question) (a : Actor) (p : ℕ) → tells r q a p ≡ b
    → (was_told (answer r q).0 qs a p ≡ true → process_of (after (answer r q).0 qs).noted a ≡ Some p)
    → (b || was_told (answer r q).0 qs a p) ≡ true → process_of (after (answer r q).0 qs).noted a ≡ Some p
either true r q qs a p t rest e = questions_keep (answer r q).0 qs a p (told_now r q a p t)
either false r q qs a p t rest e = rest e

pub told_keep : (r : Claims) (qs : List Question) (a : Actor) (p : ℕ) → was_told r qs a p ≡ true → process_of (after r qs).noted a ≡ Some p
told_keep r [] a p e = absurd cc
told_keep r (q ∷ qs) a p e = either (tells r q a p) r q qs a p refl (told_keep (answer r q).0 qs a p) e

pub told_once : (r : Claims) (qs : List Question) (a : Actor) (p q : ℕ) → was_told r qs a p ≡ true → was_told r qs a q ≡ true → p ≡ q
told_once r qs a p q e f = let g : Some p ≡ Some q = sym (told_keep r qs a p e) ∙ told_keep r qs a q f in cc

-- ---- each number stands once

record Once (cs : List Claim) : Type 0 where
  one : (i j : ℕ) (c d : Claim) → slice_get cs i ≡ Some c → slice_get cs j ≡ Some d → same_actor c.actor d.actor ≡ true → i ≡ j

same_back : (a b : Actor) → same_actor a b ≡ true → same_actor b a ≡ true
same_back a b e = let same = same_actor-true a b e in subst (λ (x : Actor). same_actor x a ≡ true) same (same_actor-refl a)

once_pushed : (cs : List Claim) (n : Claim) → find (is_of n.actor) cs ≡ None → Once cs → Once (cs ++ n ∷ [])
once_pushed cs n none h = record {
  one =
      λ i j c d at_i at_j same.
      elim (slice_get-push_cases cs n i c at_i) [
        | inl l ↦
            elim (slice_get-push_cases cs n j d at_j) [
              | inl m ↦ h.one i j c d l.1 m.1 same
              | inr m ↦
                  absurd
                  (none_passes (is_of n.actor) cs i c none l.1
                  (subst (λ (x : Claim). same_actor c.actor x.actor ≡ true) (sym m.1) same))
            ]
        | inr l ↦
            elim (slice_get-push_cases cs n j d at_j) [
              | inl m ↦
                  absurd
                  (none_passes (is_of n.actor) cs j d none m.1
                  (same_back n.actor d.actor (subst (λ (x : Claim). same_actor x.actor d.actor ≡ true) (sym l.1) same)))
              | inr m ↦ l.0 ∙ sym m.0
            ]
      ];
}

once_with : (o : Option ℕ) (cs : List Claim) (a : Actor) (p : ℕ) → process_of cs a ≡ o → Once cs
    → Once (cond (is_some o) cs (cs ++ record { actor = a; process = p } ∷ []))
once_with None cs a p t h = once_pushed cs (record { actor = a; process = p }) (no_claim (find (is_of a) cs) t) h
once_with (Some k) cs a p t h = h

once_cond : (b : Bool) (x y : Claims × Option Word) → Once x.0.noted → Once y.0.noted → Once (cond b x y).0.noted
once_cond true x y h k = h
once_cond false x y h k = k

once_judged : (may : Bool) (w : Word) (r : Claims) (a : Actor) (p : ℕ) → Once r.noted → Once (judged may r a p w).0.noted
once_judged true words.Claim r a p h = once_with (process_of r.noted a) r.noted a p refl h
once_judged true words.Ask r a p h = h
once_judged true words.Free r a p h = h
once_judged true words.Noted r a p h = h
once_judged true words.Taken r a p h = h
once_judged true words.Foreign r a p h = h
once_judged false words.Claim r a p h = h
once_judged false words.Ask r a p h = h
once_judged false words.Free r a p h = h
once_judged false words.Noted r a p h = h
once_judged false words.Taken r a p h = h
once_judged false words.Foreign r a p h = h

once_answered : (o : Option Actor) (r : Claims) (g : Greeting) → Once r.noted → Once (answered_by r o g).0.noted
once_answered None r g h = h
once_answered (Some a) r g h =
    let may = may_have r a g.process in
    once_cond (g.digest == r.digest) (judged may r a g.process g.word)
    (cond (is_question g.word) (r, Some words.Foreign) (r, None))
    (once_judged may g.word r a g.process h)
    (once_cond (is_question g.word) (r, Some words.Foreign) (r, None) h h)

once_question : (r : Claims) (q : Question) → Once r.noted → Once (answer r q).0.noted
unfolding answered
once_question r q h = once_answered (actor_named q.source q.greeting.number) r q.greeting h

once_after : (r : Claims) (qs : List Question) → Once r.noted → Once (after r qs).noted
once_after r [] h = h
once_after r (q ∷ qs) h = once_after (answer r q).0 qs (once_question r q h)

pub noted_once : (digest most : ℕ) (qs : List Question) (i j : ℕ) (c d : Claim)
    → slice_get (after (none_noted digest most) qs).noted i ≡ Some c
    → slice_get (after (none_noted digest most) qs).noted j ≡ Some d → same_actor c.actor d.actor ≡ true → i ≡ j
noted_once digest most qs i j c d at_i at_j same =
    (once_after (none_noted digest most) qs (record { one = λ i j c d at_i at_j same. absurd cc })).one i j c d at_i at_j same

-- ---- two majorities of the same links share one

both_at : {A : Type 0} (b c : Bool) (f g : A → Bool) (x : A) (xs : List A) → f x ≡ b → g x ≡ c
    → (length xs < count_by f xs + count_by g xs → (y : A) × (f y ≡ true) × (g y ≡ true))
    → length (x ∷ xs) < (cond b 1 0 + count_by f xs) + (cond c 1 0 + count_by g xs) → (y : A) × (f y ≡ true) × (g y ≡ true)
both_at true true f g x xs s t rest h = (x, s, t)
both_at true false f g x xs s t rest h = rest (omega (arith, h))
both_at false true f g x xs s t rest h = rest (omega (arith, h))
both_at false false f g x xs s t rest h = rest (omega (arith, h))

share_one : {A : Type 0} (f g : A → Bool) (xs : List A) → length xs < count_by f xs + count_by g xs
    → (y : A) × (f y ≡ true) × (g y ≡ true)
share_one f g [] h = absurd (omega (arith, h))
share_one f g (x ∷ xs) h =
    both_at (f x) (g x) f g x xs refl refl (share_one f g xs)
    (let a = count_by-cons f x xs in let b = count_by-cons g x xs in omega (arith, a, b, h))

pub most_note_one : (lives : List Life) (a : Actor) (p q : ℕ) → NotedByMost lives a p → NotedByMost lives a q → p ≡ q
most_note_one lives a p q h k =
    let y = share_one (life_tells a p) (life_tells a q) lives (omega (arith, h, k)) in
    told_once (none_noted y.0.digest y.0.most) y.0.questions a p q y.1 y.2
