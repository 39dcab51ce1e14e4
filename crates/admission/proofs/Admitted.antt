-- Who is admitted was noted by all that count, or by more than half of them, and claimed nothing before its round of Asks was over.
use Rattle.std.proofs.Common.{◌≡◌, ℕ, zero, ◌+◌, ◌*◌, ◌≤◌, ◌-◌, Bool, true, false, nat_lt, nat_le, cond, List, [], ◌∷◌, ◌++◌, refl}
use Rattle.std.proofs.Common.{sym, ap, ◌∙◌, subst, arith, inl, inr, append_assoc, append-nil, Option, Some, None, map, le-leb, leb-true}
use Rattle.std.specs.Prelude.{◌&&◌, ◌||◌, ◌⊎◌, count_by, option_to_list}
use Rattle.std.specs.List.{list_all}
use Rattle.std.proofs.lemmas.Bool.{and_parts, lt-ltb, ltb-true, and_from}
use Rattle.nop_types.specs.Lists.{Has}
use Rattle.nop_types.specs.declared.output.Actor.{Actor}
use Rattle.lemmas.proofs.Members.{Has-first, Has-rest, Has-none, Has-cases, Has-one, Has-append_left, Has-append_right, Has-append_cases}
use Rattle.admission.proofs.Counted.{count_by-cons}
use Rattle.admission.specs.declared.greeting.Greeting.{Greeting}
use Rattle.admission.specs.declared.greeting.Word.{Word}
use Rattle.admission.specs.declared.greeting.Word.TheVariants as words
use Rattle.admission.specs.declared.own.Own.{Own}
use Rattle.admission.specs.declared.own.Other.{Other}
use Rattle.admission.specs.declared.own.Standing.{Standing}
use Rattle.admission.specs.declared.own.Standing.TheVariants.{Going, Admitted, Refused, Late}
use Rattle.admission.specs.declared.own.TheConstants.{ASK_MICROS, ALL_MICROS, REMIND_MICROS}
use Rattle.admission.specs.Actors.{counts, is_asked, same_actor}
use Rattle.admission.specs.Asked.{Event, Turns, Hears, BeganToClaim, ByMost, Said, asked, run, step}
use Rattle.admission.specs.Rounds.{Asking, agree, answers, asked_again, forgotten, have_all, have_most, heard, heard_word, how_many}
use Rattle.admission.specs.Rounds.{is_admitted, is_agreement, is_ask, is_claim, is_going, is_refusal}
use Rattle.admission.specs.Rounds.{is_due, is_late, is_other, is_to, marked, next_round, opening, others_of, turned, turned_by}
use Rattle.admission.specs.Rounds.{unanswered, with_answer}

-- ---- what a time does

abbrev pub claims_at : Asking → ℕ → Asking
claims_at s now = record s { others = forgotten s.others; word = words.Claim; start = now; last = Some now }

pub data Turning (s : Asking) (now : ℕ) : Asking × Option Word → Type 0 where
  Begins : agree s now ≡ true → s.word ≡ words.Ask → s.standing ≡ Going → Turning s now (claims_at s now, Some words.Claim)
  Admits : agree s now ≡ true → (s.word ≡ words.Ask → ⊥) → Turning s now (record s { standing = Admitted }, None)
  Ends : Turning s now (record s { standing = Late }, None)
  Asks : Turning s now (record s { last = Some now }, Some s.word)
  Rests : Turning s now (s, None)

again : (b : Bool) (s : Asking) (now : ℕ) → Turning s now (cond b (record s { last = Some now }, Some s.word) (s, None))
again true s now = Asks
again false s now = Rests

next : (w : Word) (s : Asking) (now : ℕ) → s.word ≡ w → s.standing ≡ Going → agree s now ≡ true → Turning s now (next_round w s now)
next words.Ask s now is going e = Begins e is going
next words.Claim s now is going e = Admits e (λ f. cc)
next words.Free s now is going e = Admits e (λ f. cc)
next words.Noted s now is going e = Admits e (λ f. cc)
next words.Taken s now is going e = Admits e (λ f. cc)
next words.Foreign s now is going e = Admits e (λ f. cc)

late_or : (b : Bool) (s : Asking) (now : ℕ) → Turning s now (cond b (record s { standing = Late }, None) (asked_again ASK_MICROS s now))
late_or true s now = Ends
late_or false s now = again (is_due ASK_MICROS s.last now) s now

agree_or : (b : Bool) (s : Asking) (now : ℕ) → agree s now ≡ b → s.standing ≡ Going
    → Turning s now
    (cond b (next_round s.word s now) (cond (is_late s now) (record s { standing = Late }, None) (asked_again ASK_MICROS s now)))
agree_or true s now e going = next s.word s now refl going e
agree_or false s now e going = late_or (is_late s now) s now

remind_or : (b : Bool) (s : Asking) (now : ℕ) → Turning s now (cond b (s, None) (asked_again REMIND_MICROS s now))
remind_or true s now = Rests
remind_or false s now = again (is_due REMIND_MICROS s.last now) s now

by_standing : (st : Standing) (s : Asking) (now : ℕ) → s.standing ≡ st → Turning s now (turned_by st s now)
by_standing Going s now e = agree_or (agree s now) s now refl e
by_standing Admitted s now e = remind_or (list_all (λ o. o.has_answered) s.others) s now
by_standing Refused s now e = Rests
by_standing Late s now e = Rests

pub turning : (s : Asking) (now : ℕ) → Turning s now (turned s now)
unfolding turned
turning s now = by_standing s.standing s now refl

-- ---- what a greeting does

pub data Hearing (s : Asking) (from : Actor) (g : Greeting) : Asking → Type 0 where
  Frees : s.word ≡ words.Ask → is_to s.own g ≡ true → g.word ≡ words.Free → Hearing s from g (with_answer s from)
  Notes : s.word ≡ words.Claim → is_to s.own g ≡ true → g.word ≡ words.Noted → Hearing s from g (with_answer s from)
  Refuses : Hearing s from g (record s { standing = Refused })
  Ignores : Hearing s from g s

ask_is : (w : Word) → is_ask w ≡ true → w ≡ words.Ask
ask_is words.Ask e = refl
ask_is words.Claim e = absurd cc
ask_is words.Free e = absurd cc
ask_is words.Noted e = absurd cc
ask_is words.Taken e = absurd cc
ask_is words.Foreign e = absurd cc

claim_is : (w : Word) → is_claim w ≡ true → w ≡ words.Claim
claim_is words.Claim e = refl
claim_is words.Ask e = absurd cc
claim_is words.Free e = absurd cc
claim_is words.Noted e = absurd cc
claim_is words.Taken e = absurd cc
claim_is words.Foreign e = absurd cc

agrees : (w : Word) (s : Asking) (from : Actor) (g : Greeting) → g.word ≡ w → is_to s.own g ≡ true
    → is_agreement w s.word s.standing ≡ true → Hearing s from g (with_answer s from)
agrees words.Free s from g is to e = Frees (ask_is s.word (and_parts (is_ask s.word) (is_going s.standing) e).0) to is
agrees words.Noted s from g is to e =
    Notes (claim_is s.word (and_parts (is_claim s.word) (is_going s.standing || is_admitted s.standing) e).0) to is
agrees words.Ask s from g is to e = absurd cc
agrees words.Claim s from g is to e = absurd cc
agrees words.Taken s from g is to e = absurd cc
agrees words.Foreign s from g is to e = absurd cc

refuses_or : (b : Bool) (s : Asking) (from : Actor) (g : Greeting) → Hearing s from g (cond b (record s { standing = Refused }) s)
refuses_or true s from g = Refuses
refuses_or false s from g = Ignores

agrees_or : (b : Bool) (s : Asking) (from : Actor) (g : Greeting) → is_to s.own g ≡ true → is_agreement g.word s.word s.standing ≡ b
    → Hearing s from g
    (cond b (with_answer s from) (cond (is_refusal g.word && is_going s.standing) (record s { standing = Refused }) s))
agrees_or true s from g to e = agrees g.word s from g refl to e
agrees_or false s from g to e = refuses_or (is_refusal g.word && is_going s.standing) s from g

heard_if : (b : Bool) (s : Asking) (from : Actor) (g : Greeting) → (is_to s.own g && is_other s.others from) ≡ b
    → Hearing s from g (cond b (heard_word g.word s from) s)
heard_if true s from g e =
    agrees_or (is_agreement g.word s.word s.standing) s from g (and_parts (is_to s.own g) (is_other s.others from) e).0 refl
heard_if false s from g e = Ignores

pub hearing : (s : Asking) (from : Actor) (g : Greeting) → Hearing s from g (heard s from g)
unfolding heard
hearing s from g = heard_if (is_to s.own g && is_other s.others from) s from g refl

-- ---- nothing is claimed before

asks_before : (s : Asking) (now : ℕ) (t : Asking × Option Word) → Turning s now t → t.0.word ≡ words.Ask
    → (s.word ≡ words.Ask) × ((w : Word) → Has (option_to_list t.1) w → w ≡ words.Ask)
asks_before s now t (Begins a b c) e = absurd cc
asks_before s now t (Admits a b) e = absurd (b e)
asks_before s now t Ends e = (e, λ w h. absurd (Has-none w h))
asks_before s now t Asks e = (e, λ w h. Has-one w s.word h ∙ e)
asks_before s now t Rests e = (e, λ w h. absurd (Has-none w h))

hears_before : (s : Asking) (from : Actor) (g : Greeting) (t : Asking) → Hearing s from g t → t.word ≡ words.Ask → s.word ≡ words.Ask
hears_before s from g t (Frees a b c) e = e
hears_before s from g t (Notes a b c) e = e
hears_before s from g t Refuses e = e
hears_before s from g t Ignores e = e

step_before : (s : Asking) (e : Event) → (step s e).0.word ≡ words.Ask
    → (s.word ≡ words.Ask) × ((w : Word) → Has (option_to_list (step s e).1) w → w ≡ words.Ask)
step_before s (Turns now) ask = asks_before s now (turned s now) (turning s now) ask
step_before s (Hears from g) ask = (hears_before s from g (heard s from g) (hearing s from g) ask, λ w h. absurd (Has-none w h))

run_before : (s : Asking) (es : List Event) → (run s es).word ≡ words.Ask → s.word ≡ words.Ask
run_before s [] ask = ask
run_before s (e ∷ es) ask = (step_before s e (run_before (step s e).0 es ask)).0

asks_only : (s : Asking) (es : List Event) → (run s es).word ≡ words.Ask → (w : Word) → Has (asked s es) w → w ≡ words.Ask
asks_only s [] ask w h = absurd (Has-none w h)
asks_only s (e ∷ es) ask w h =
    elim (Has-append_cases (option_to_list (step s e).1) (asked (step s e).0 es) w h) [
      | inl l ↦ (step_before s e (run_before (step s e).0 es ask)).1 w l
      | inr r ↦ asks_only (step s e).0 es ask w r
    ]

pub asks_first : (own : Own) (nodes : List Actor) (now : ℕ) (es : List Event) → (run (opening own nodes now) es).word ≡ words.Ask
    → (w : Word) → Has (asked (opening own nodes now) es) w → w ≡ words.Ask
asks_first own nodes now es ask w h = asks_only (opening own nodes now) es ask w h

-- an Ask goes on, or the round agrees
data Going_on (s : Asking) : Event → Asking × Option Word → Type 0 where
  Agrees : (now : ℕ) (t : Asking × Option Word) → agree s now ≡ true → Going_on s (Turns now) t
  Stays : (e : Event) (t : Asking × Option Word) → t.0.word ≡ words.Ask → ((w : Word) → Has (option_to_list t.1) w → w ≡ words.Ask)
      → Going_on s e t

time_goes : (s : Asking) (now : ℕ) (t : Asking × Option Word) → s.word ≡ words.Ask → Turning s now t → Going_on s (Turns now) t
time_goes s now t ask (Begins a b c) = Agrees now _ a
time_goes s now t ask (Admits a b) = Agrees now _ a
time_goes s now t ask Ends = Stays (Turns now) _ ask (λ w h. absurd (Has-none w h))
time_goes s now t ask Asks = Stays (Turns now) _ ask (λ w h. Has-one w s.word h ∙ ask)
time_goes s now t ask Rests = Stays (Turns now) _ ask (λ w h. absurd (Has-none w h))

heard_goes : (s : Asking) (from : Actor) (g : Greeting) (t : Asking) → s.word ≡ words.Ask → Hearing s from g t
    → Going_on s (Hears from g) (t, None)
heard_goes s from g t ask (Frees a b c) = Stays (Hears from g) _ ask (λ w h. absurd (Has-none w h))
heard_goes s from g t ask (Notes a b c) = Stays (Hears from g) _ ask (λ w h. absurd (Has-none w h))
heard_goes s from g t ask Refuses = Stays (Hears from g) _ ask (λ w h. absurd (Has-none w h))
heard_goes s from g t ask Ignores = Stays (Hears from g) _ ask (λ w h. absurd (Has-none w h))

goes : (s : Asking) (e : Event) → s.word ≡ words.Ask → Going_on s e (step s e)
goes s (Turns now) ask = time_goes s now (turned s now) ask (turning s now)
goes s (Hears from g) ask = heard_goes s from g (heard s from g) ask (hearing s from g)

record Began (s : Asking) (es : List Event) : Type 0 where
  before : List Event
  now : ℕ
  behind : List Event
  is : es ≡ before ++ Turns now ∷ behind
  asks : (run s before).word ≡ words.Ask
  agreed : agree (run s before) now ≡ true

later_begin : (s : Asking) (e : Event) (es : List Event) → Began (step s e).0 es → Began s (e ∷ es)
later_begin s e es b =
    record { before = e ∷ b.before; now = b.now; behind = b.behind; is = ap (λ (xs : List Event). e ∷ xs) b.is; asks = b.asks; agreed = b.agreed }

begin_by : (s : Asking) (e : Event) (es : List Event) (t : Asking × Option Word) → step s e ≡ t → s.word ≡ words.Ask → Going_on s e t
    → (t.0.word ≡ words.Ask → Has (asked t.0 es) words.Claim → Began t.0 es)
    → Has (option_to_list t.1 ++ asked t.0 es) words.Claim → Began s (e ∷ es)
begin_by s x es u same ask (Agrees now t a) rest h =
    record { before = []; now = now; behind = es; is = refl; asks = ask; agreed = a }
begin_by s x es u same ask (Stays e t b c) rest h =
    elim (Has-append_cases (option_to_list t.1) (asked t.0 es) words.Claim h) [
      | inl l ↦ absurd (let f : words.Claim ≡ words.Ask = c words.Claim l in cc)
      | inr r ↦ later_begin s e es (subst (λ (x : Asking × Option Word). Began x.0 es) (sym same) (rest b r))
    ]

claims_after : (s : Asking) (es : List Event) → s.word ≡ words.Ask → Has (asked s es) words.Claim → Began s es
claims_after s [] ask h = absurd (Has-none words.Claim h)
claims_after s (e ∷ es) ask h =
    begin_by s e es (step s e) refl ask (goes s e ask) (λ still r. claims_after (step s e).0 es still r) h

-- ---- answers are counted

-- a test that a change leaves as it is
count_by-same : {A : Type 0} (p : A → Bool) (f : A → A) → ((x : A) → p (f x) ≡ p x) → (xs : List A) → count_by p (map f xs) ≡ count_by p xs
count_by-same p f h [] = refl
count_by-same p f h (x ∷ xs) =
    let rest = count_by-same p f h xs in
    let both : cond (p (f x)) 1 0 + count_by p (map f xs) ≡ cond (p x) 1 0 + count_by p xs = λ i. cond (h x i) 1 0 + rest i in
    count_by-cons p (f x) (map f xs) ∙ both ∙ sym (count_by-cons p x xs)

more_at : (b c : Bool) (n m : ℕ) → (b ≡ true → c ≡ true) → n ≤ m → cond b 1 0 + n ≤ cond c 1 0 + m
more_at true true n m h l = omega (arith, l)
more_at true false n m h l = absurd (let f = h refl in cc)
more_at false true n m h l = omega (arith, l)
more_at false false n m h l = omega (arith, l)

-- a test that a change does not take away
count_by-more : {A : Type 0} (p : A → Bool) (f : A → A) → ((x : A) → p x ≡ true → p (f x) ≡ true) → (xs : List A)
    → count_by p xs ≤ count_by p (map f xs)
count_by-more p f h [] = omega arith
count_by-more p f h (x ∷ xs) =
    let more = more_at (p x) (p (f x)) (count_by p xs) (count_by p (map f xs)) (h x) (count_by-more p f h xs) in
    let before = count_by-cons p x xs in
    let after = count_by-cons p (f x) (map f xs) in
    omega (arith, before, after, more)

pub actor_stays : (b : Bool) (o : Other) → (cond b (record o { has_answered = true }) o).actor ≡ o.actor
actor_stays true o = refl
actor_stays false o = refl

answer_stays : (b : Bool) (own : Actor) (o : Other) → (counts own o.actor && o.has_answered) ≡ true
    → (counts own (cond b (record o { has_answered = true }) o).actor && (cond b (record o { has_answered = true }) o).has_answered) ≡ true
answer_stays true own o e = and_from (counts own o.actor) true (and_parts (counts own o.actor) o.has_answered e).0 refl
answer_stays false own o e = e

how_many-marked : (own from : Actor) (others : List Other) → how_many own (map (marked from) others) ≡ how_many own others
how_many-marked own from others =
    count_by-same (λ o. counts own o.actor) (marked from) (λ o. ap (counts own) (actor_stays (same_actor o.actor from) o)) others

answers-marked : (own from : Actor) (others : List Other) → answers own others ≤ answers own (map (marked from) others)
answers-marked own from others =
    count_by-more (λ o. counts own o.actor && o.has_answered) (marked from) (λ o e. answer_stays (same_actor o.actor from) own o e) others

-- all that count have answered, or more than half of them
record Enough (own : Actor) (others : List Other) : Type 0 where
  is : (have_all own others || have_most own others) ≡ true

or_right : (a b c : Bool) → (b ≡ true → c ≡ true) → (a ≡ true → c ≡ true) → (a || b) ≡ true → c ≡ true
or_right true b c f g e = g refl
or_right false b c f g e = f e

or_first : (a b : Bool) → a ≡ true → (a || b) ≡ true
or_first true b e = refl
or_first false b e = absurd cc

or_second : (a b : Bool) → b ≡ true → (a || b) ≡ true
or_second true b e = refl
or_second false b e = e

more_answers : (n a b : ℕ) → a ≤ b → (nat_le n a || nat_lt n (2 * a)) ≡ true → (nat_le n b || nat_lt n (2 * b)) ≡ true
more_answers n a b l e =
    or_right (nat_le n a) (nat_lt n (2 * a)) (nat_le n b || nat_lt n (2 * b))
    (λ t. let k = ltb-true n (2 * a) t in or_second (nat_le n b) (nat_lt n (2 * b)) (lt-ltb n (2 * b) (omega (arith, k, l))))
    (λ t. let k = leb-true n a t in or_first (nat_le n b) (nat_lt n (2 * b)) (le-leb n b (omega (arith, k, l))))
    e

enough_marked : (own from : Actor) (others : List Other) → Enough own others → Enough own (map (marked from) others)
enough_marked own from others h = record {
  is =
      subst
      (λ (n : ℕ).
      (nat_le n (answers own (map (marked from) others)) || nat_lt n (2 * answers own (map (marked from) others))) ≡ true)
      (sym (how_many-marked own from others))
      (more_answers (how_many own others) (answers own others) (answers own (map (marked from) others)) (answers-marked own from others) h.is);
}

agree_enough : (a b c : Bool) → (a || (b && c)) ≡ true → (a || c) ≡ true
agree_enough true b c e = refl
agree_enough false true c e = e
agree_enough false false c e = absurd cc

-- ---- what holds while it asks

-- the answer that a round waits for
abbrev waited : Word → Word
waited words.Ask = words.Free
waited _ = words.Noted

record Holds (own : Own) (es : List Event) (s : Asking) : Type 0 where
  is : s.own ≡ own
  word : (s.word ≡ words.Ask) ⊎ (s.word ≡ words.Claim)
  said : (o : Other) → Has s.others o → o.has_answered ≡ true → Said own es (waited s.word) o
  admitted : s.standing ≡ Admitted → (s.word ≡ words.Claim) × Enough own.actor s.others

said_later : (own : Own) (es more : List Event) (w : Word) (o : Other) → Said own es w o → Said own (es ++ more) w o
said_later own es more w o h = record {
  from = h.from;
  greeting = h.greeting;
  heard = Has-append_left es more (Hears h.from h.greeting) h.heard;
  is_node = h.is_node;
  word_is = h.word_is;
  is_to = h.is_to;
}

has_forgotten : (others : List Other) (o : Other) → Has (forgotten others) o → o.has_answered ≡ true → ⊥
has_forgotten [] o h e = Has-none o h
has_forgotten (x ∷ xs) o h e = elim (Has-cases o (unanswered x.actor) (forgotten xs) h) [
  | inl s ↦ (let f : o.has_answered ≡ false = ap (λ (y : Other). y.has_answered) s in cc)
  | inr r ↦ has_forgotten xs o r e
]

-- one that has answered had done so before, or is the one that answers now
record Marked (from : Actor) (others : List Other) (o : Other) : Type 0 where
  cases : (Has others o) ⊎ (same_actor o.actor from ≡ true)

marked_is : (b : Bool) (from : Actor) (x o : Other) (xs : List Other) → same_actor x.actor from ≡ b
    → o ≡ cond b (record x { has_answered = true }) x → Marked from (x ∷ xs) o
marked_is true from x o xs t e =
    record { cases = inr (let a : o.actor ≡ x.actor = ap (λ (y : Other). y.actor) e in rw a t) }
marked_is false from x o xs t e = record { cases = inl (Has-first o x xs e) }

has_marked : (from : Actor) (others : List Other) (o : Other) → Has (map (marked from) others) o → Marked from others o
has_marked from [] o h = absurd (Has-none o h)
has_marked from (x ∷ xs) o h = elim (Has-cases o (marked from x) (map (marked from) xs) h) [
  | inl s ↦ marked_is (same_actor x.actor from) from x o xs refl s
  | inr r ↦ (
      let m = has_marked from xs o r in
      elim m.cases [
        | inl k ↦ record { cases = inl (Has-rest o x xs k) }
        | inr k ↦ record { cases = inr k }
      ])
]

-- nothing but the time of the last question, or the standing, changed
holds_on : (own : Own) (es : List Event) (e : Event) (s t : Asking) → Holds own es s → t.own ≡ s.own → t.word ≡ s.word → t.others ≡ s.others
    → (t.standing ≡ Admitted → (s.word ≡ words.Claim) × Enough own.actor s.others) → Holds own (es ++ e ∷ []) t
holds_on own es e s t h own_is word others admitted = record {
  is = own_is ∙ h.is;
  word = elim h.word [ inl a ↦ inl (word ∙ a) | inr a ↦ inr (word ∙ a) ];
  said =
      λ o has answered.
      subst (λ (w : Word). Said own (es ++ e ∷ []) (waited w) o) (sym word)
      (said_later own es (e ∷ []) (waited s.word) o (h.said o (subst (λ (xs : List Other). Has xs o) others has) answered));
  admitted =
      λ a.
      let k = admitted a in
      (word ∙ k.0, subst (λ (xs : List Other). Enough own.actor xs) (sym others) k.1);
}

holds_turned : (own : Own) (es : List Event) (s : Asking) (now : ℕ) (t : Asking × Option Word) → Holds own es s → Turning s now t
    → Holds own (es ++ Turns now ∷ []) t.0
holds_turned own es s now t h (Begins a b c) = record {
  is = h.is;
  word = inr refl;
  said = λ o has answered. absurd (has_forgotten s.others o has answered);
  admitted = λ x. absurd (let f : Going ≡ Admitted = sym c ∙ x in cc);
}
holds_turned own es s now t h (Admits a b) =
    holds_on own es (Turns now) s (record s { standing = Admitted }) h refl refl refl
    (λ x. (
      elim h.word [ inl k ↦ absurd (b k) | inr k ↦ k ],
      record {
        is =
            agree_enough (have_all own.actor s.others) (nat_le ALL_MICROS (now - s.start)) (have_most own.actor s.others)
            (subst
            (λ (o : Own). (have_all o.actor s.others || (nat_le ALL_MICROS (now - s.start) && have_most o.actor s.others)) ≡ true) h.is a);
      },
    ))
holds_turned own es s now t h Ends =
    holds_on own es (Turns now) s (record s { standing = Late }) h refl refl refl (λ x. absurd cc)
holds_turned own es s now t h Asks = holds_on own es (Turns now) s (record s { last = Some now }) h refl refl refl h.admitted
holds_turned own es s now t h Rests = holds_on own es (Turns now) s s h refl refl refl h.admitted

says_now : (own : Own) (es : List Event) (s : Asking) (from : Actor) (g : Greeting) (w : Word) → Holds own es s → is_to s.own g ≡ true
    → g.word ≡ w → (o : Other) → same_actor o.actor from ≡ true → Said own (es ++ Hears from g ∷ []) w o
says_now own es s from g w h to noted o same = record {
  from = from;
  greeting = g;
  heard = Has-append_right es (Hears from g ∷ []) (Hears from g) (zero, refl);
  is_node = same;
  word_is = noted;
  is_to = subst (λ (x : Own). is_to x g ≡ true) h.is to;
}

holds_marked : (own : Own) (es : List Event) (s : Asking) (from : Actor) (g : Greeting) → Holds own es s
    → is_to s.own g ≡ true → g.word ≡ waited s.word → Holds own (es ++ Hears from g ∷ []) (with_answer s from)
holds_marked own es s from g h to noted = record {
  is = h.is;
  word = h.word;
  said =
      λ o has answered.
      let m = has_marked from s.others o has in
      elim m.cases [
        | inl k ↦ said_later own es (Hears from g ∷ []) (waited s.word) o (h.said o k answered)
        | inr k ↦ says_now own es s from g (waited s.word) h to noted o k
      ];
  admitted = λ a. let k = h.admitted a in (k.0, enough_marked own.actor from s.others k.1);
}

holds_heard : (own : Own) (es : List Event) (s : Asking) (from : Actor) (g : Greeting) (t : Asking) → Holds own es s → Hearing s from g t
    → Holds own (es ++ Hears from g ∷ []) t
holds_heard own es s from g t h (Frees a b c) = holds_marked own es s from g h b (c ∙ ap waited (sym a))
holds_heard own es s from g t h (Notes a b c) = holds_marked own es s from g h b (c ∙ ap waited (sym a))
holds_heard own es s from g t h Refuses =
    holds_on own es (Hears from g) s (record s { standing = Refused }) h refl refl refl (λ x. absurd cc)
holds_heard own es s from g t h Ignores = holds_on own es (Hears from g) s s h refl refl refl h.admitted

holds_step : (own : Own) (es : List Event) (s : Asking) (e : Event) → Holds own es s → Holds own (es ++ e ∷ []) (step s e).0
holds_step own es s (Turns now) h = holds_turned own es s now (turned s now) h (turning s now)
holds_step own es s (Hears from g) h = holds_heard own es s from g (heard s from g) h (hearing s from g)

holds_run : (own : Own) (before es : List Event) (s : Asking) → Holds own before s → Holds own (before ++ es) (run s es)
holds_run own before [] s h = rw append-nil h
holds_run own before (e ∷ es) s h =
    subst (λ (xs : List Event). Holds own xs (run (step s e).0 es)) (append_assoc before (e ∷ []) es)
    (holds_run own (before ++ e ∷ []) es (step s e).0 (holds_step own before s e h))

first_or : (b : Bool) (a : Actor) (xs : List Other) (o : Other) → (Has xs o → o.has_answered ≡ true → ⊥)
    → Has (cond b (unanswered a ∷ xs) xs) o → o.has_answered ≡ true → ⊥
first_or true a xs o rest h e = elim (Has-cases o (unanswered a) xs h) [
  | inl s ↦ (let f : o.has_answered ≡ false = ap (λ (y : Other). y.has_answered) s in cc)
  | inr r ↦ rest r e
]
first_or false a xs o rest h e = rest h e

opening_forgotten : (own : Actor) (nodes : List Actor) (o : Other) → Has (others_of own nodes) o → o.has_answered ≡ true → ⊥
opening_forgotten own [] o h e = Has-none o h
opening_forgotten own (a ∷ rest) o h e =
    first_or (is_asked own a) a (others_of own rest) o (λ k f. opening_forgotten own rest o k f) h e

holds_first : (own : Own) (nodes : List Actor) (now : ℕ) → Holds own [] (opening own nodes now)
holds_first own nodes now =
    record {
      is = refl;
      word = inl refl;
      said = λ o has answered. absurd (opening_forgotten own.actor nodes o has answered);
      admitted = λ a. absurd cc;
    }

pub admitted_by_most : (own : Own) (nodes : List Actor) (now : ℕ) (es : List Event)
    → (run (opening own nodes now) es).standing ≡ Admitted → ByMost own es (run (opening own nodes now) es)
admitted_by_most own nodes now es a =
    let h = holds_run own [] es (opening own nodes now) (holds_first own nodes now) in
    let k = h.admitted a in
    record {
      enough = k.1.is;
      said =
          λ o has answered.
          subst (λ (w : Word). Said own es (waited w) o) k.0 (h.said o has answered);
    }

pub claims_behind : (own : Own) (nodes : List Actor) (now : ℕ) (es : List Event)
    → Has (asked (opening own nodes now) es) words.Claim → BeganToClaim own (opening own nodes now) es
claims_behind own nodes now es h =
    let b = claims_after (opening own nodes now) es refl h in
    let k = holds_run own [] b.before (opening own nodes now) (holds_first own nodes now) in
    record {
      before = b.before;
      now = b.now;
      behind = b.behind;
      is = b.is;
      asks = b.asks;
      agreed = b.agreed;
      said =
          λ o has answered.
          subst (λ (w : Word). Said own b.before (waited w) o) b.asks (k.said o has answered);
    }
