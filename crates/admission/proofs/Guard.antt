-- Two processes that were admitted under one number are one.
use Rattle.std.proofs.Common.{◌≡◌, ℕ, ◌+◌, ◌*◌, ◌<◌, ◌≤◌, Bool, true, false, nat_lt, nat_le, cond, List, [], ◌∷◌, refl, sym, ap, ◌∙◌, subst, arith}
use Rattle.std.proofs.Common.{map, Option}
use Rattle.std.specs.Prelude.{◌&&◌, ◌||◌, count_by}
use Rattle.std.proofs.lemmas.Bool.{and_parts, leb-true, ltb-true}
use Rattle.nop_types.specs.Lists.{Has}
use Rattle.nop_types.specs.declared.output.Actor.{Actor}
use Rattle.lemmas.proofs.Members.{Has-first, Has-rest}
use Rattle.admission.specs.declared.greeting.Greeting.{Greeting}
use Rattle.admission.specs.declared.greeting.Word.{Word}
use Rattle.admission.specs.declared.greeting.Word.TheVariants as words
use Rattle.admission.specs.declared.own.Own.{Own}
use Rattle.admission.specs.declared.own.Other.{Other}
use Rattle.admission.specs.declared.own.Standing.TheVariants.{Admitted}
use Rattle.admission.specs.Actors.{counts, same_actor}
use Rattle.admission.specs.Asked.{ByMost, Event, Hears, IsAnswered, Said, Turns, run, step}
use Rattle.admission.specs.Questions.{Life, life_tells}
use Rattle.admission.specs.Registries.{none_noted}
use Rattle.admission.specs.Rounds.{Asking, answers, forgotten, have_all, have_most, heard, how_many, marked, opening, others_of, turned}
use Rattle.admission.proofs.Admitted.{Admits, Asks, Begins, Ends, Frees, Hearing, Ignores, Notes, Refuses, Rests, Turning, actor_stays}
use Rattle.admission.proofs.Admitted.{admitted_by_most, hearing, turning}
use Rattle.admission.proofs.Counted.{count_by-cons}
use Rattle.admission.proofs.Noting.{same_actor-true, told_once}

-- ---- the nodes stay the same

abbrev actors : List Other → List Actor
actors others = map (λ o. o.actor) others

actors_forgotten : (xs : List Other) → actors (forgotten xs) ≡ actors xs
actors_forgotten [] = refl
actors_forgotten (x ∷ xs) = ap (λ (ys : List Actor). x.actor ∷ ys) (actors_forgotten xs)

actors_marked : (from : Actor) (xs : List Other) → actors (map (marked from) xs) ≡ actors xs
actors_marked from [] = refl
actors_marked from (x ∷ xs) =
    let first = actor_stays (same_actor x.actor from) x in
    let rest = actors_marked from xs in
    λ i. first i ∷ rest i

turned_actors : (s : Asking) (now : ℕ) (t : Asking × Option Word) → Turning s now t → actors t.0.others ≡ actors s.others
turned_actors s now t (Begins a b c) = actors_forgotten s.others
turned_actors s now t (Admits a b) = refl
turned_actors s now t Ends = refl
turned_actors s now t Asks = refl
turned_actors s now t Rests = refl

heard_actors : (s : Asking) (from : Actor) (g : Greeting) (t : Asking) → Hearing s from g t → actors t.others ≡ actors s.others
heard_actors s from g t (Frees a b c) = actors_marked from s.others
heard_actors s from g t (Notes a b c) = actors_marked from s.others
heard_actors s from g t Refuses = refl
heard_actors s from g t Ignores = refl

step_actors : (s : Asking) (e : Event) → actors (step s e).0.others ≡ actors s.others
step_actors s (Turns now) = turned_actors s now (turned s now) (turning s now)
step_actors s (Hears from g) = heard_actors s from g (heard s from g) (hearing s from g)

run_actors : (s : Asking) (es : List Event) → actors (run s es).others ≡ actors s.others
run_actors s [] = refl
run_actors s (e ∷ es) = run_actors (step s e).0 es ∙ step_actors s e

-- ---- counted by their actors

-- those that count, and whose links told the process that its claim is noted
abbrev noted_by : (Actor → Life) → Own → Actor → Bool
noted_by life own x = counts own.actor x && life_tells own.actor own.process (life x)

how_many-actors : (own : Actor) (xs : List Other) → how_many own xs ≡ count_by (counts own) (actors xs)
how_many-actors own [] = refl
how_many-actors own (x ∷ xs) =
    count_by-cons (λ o. counts own o.actor) x xs
    ∙ ap (λ (n : ℕ). cond (counts own x.actor) 1 0 + n) (how_many-actors own xs)
    ∙ sym (count_by-cons (counts own) x.actor (actors xs))

told_at : (c h t : Bool) (n m : ℕ) → (h ≡ true → t ≡ true) → n ≤ m → cond (c && h) 1 0 + n ≤ cond (c && t) 1 0 + m
told_at true true true n m f l = omega (arith, l)
told_at true true false n m f l = absurd (let k = f refl in cc)
told_at true false true n m f l = omega (arith, l)
told_at true false false n m f l = omega (arith, l)
told_at false h t n m f l = omega (arith, l)

answers-noted : (life : Actor → Life) (own : Own) (xs : List Other)
    → ((o : Other) → Has xs o → o.has_answered ≡ true → life_tells own.actor own.process (life o.actor) ≡ true)
    → answers own.actor xs ≤ count_by (noted_by life own) (actors xs)
answers-noted life own [] h = omega arith
answers-noted life own (x ∷ xs) h =
    let more =
    told_at (counts own.actor x.actor) x.has_answered (life_tells own.actor own.process (life x.actor)) (answers own.actor xs)
    (count_by (noted_by life own) (actors xs)) (h x (Has-first x x xs refl))
    (answers-noted life own xs (λ o has e. h o (Has-rest o x xs has) e)) in
    let left = count_by-cons (λ o. counts own.actor o.actor && o.has_answered) x xs in
    let right = count_by-cons (noted_by life own) x.actor (actors xs) in
    omega (arith, left, right, more)

-- more than half of those that count
record Most (life : Actor → Life) (own : Own) (nodes : List Actor) : Type 0 where
  is : count_by (counts own.actor) nodes < 2 * count_by (noted_by life own) nodes

more_than_half : (a b : Bool) (n m : ℕ) → 0 < n → nat_le n m ≡ a → nat_lt n (2 * m) ≡ b → (a || b) ≡ true → n < 2 * m
more_than_half true b n m some e f g = omega (arith, some, leb-true n m e)
more_than_half false true n m some e f g = ltb-true n (2 * m) f
more_than_half false false n m some e f g = absurd cc

said_is_told : (life : Actor → Life) (own : Own) (es : List Event) (o : Other) → IsAnswered life own es → Said own es words.Noted o
    → life_tells own.actor own.process (life o.actor) ≡ true
said_is_told life own es o h s =
    let same : o.actor ≡ s.from = same_actor-true o.actor s.from s.is_node in
    subst (λ (x : Actor). life_tells own.actor own.process (life x) ≡ true) (sym same) (h.said s.from s.greeting s.heard s.word_is s.is_to)

most_by : (life : Actor → Life) (own : Own) (nodes : List Actor) (es : List Event) (s : Asking) → IsAnswered life own es
    → ByMost own es s → actors s.others ≡ nodes → 0 < count_by (counts own.actor) nodes → Most life own nodes
most_by life own nodes es s h by same some =
    let n : how_many own.actor s.others ≡ count_by (counts own.actor) nodes =
    how_many-actors own.actor s.others ∙ ap (λ (xs : List Actor). count_by (counts own.actor) xs) same in
    let m : answers own.actor s.others ≤ count_by (noted_by life own) nodes =
    subst (λ (xs : List Actor). answers own.actor s.others ≤ count_by (noted_by life own) xs) same
    (answers-noted life own s.others (λ o has e. said_is_told life own es o h (by.said o has e))) in
    let half : how_many own.actor s.others < 2 * answers own.actor s.others =
    more_than_half (have_all own.actor s.others) (have_most own.actor s.others) (how_many own.actor s.others) (answers own.actor s.others)
    (omega (arith, n, some)) refl refl by.enough in
    record { is = omega (arith, n, m, half) }

-- ---- two majorities of those that count share one

shared_at : {A : Type 0} (k b d : Bool) (c f g : A → Bool) (x : A) (xs : List A) → c x ≡ k → f x ≡ b → g x ≡ d
    → (f x ≡ true → c x ≡ true) → (g x ≡ true → c x ≡ true)
    → (count_by c xs < count_by f xs + count_by g xs → (y : A) × (f y ≡ true) × (g y ≡ true))
    → cond k 1 0 + count_by c xs < (cond b 1 0 + count_by f xs) + (cond d 1 0 + count_by g xs)
    → (y : A) × (f y ≡ true) × (g y ≡ true)
shared_at k true true c f g x xs r s t i j rest h = (x, s, t)
shared_at true true false c f g x xs r s t i j rest h = rest (omega (arith, h))
shared_at false true false c f g x xs r s t i j rest h = absurd (let q = i s in cc)
shared_at true false true c f g x xs r s t i j rest h = rest (omega (arith, h))
shared_at false false true c f g x xs r s t i j rest h = absurd (let q = j t in cc)
shared_at true false false c f g x xs r s t i j rest h = rest (omega (arith, h))
shared_at false false false c f g x xs r s t i j rest h = rest (omega (arith, h))

share_among : {A : Type 0} (c f g : A → Bool) → ((x : A) → f x ≡ true → c x ≡ true) → ((x : A) → g x ≡ true → c x ≡ true)
    → (xs : List A) → count_by c xs < count_by f xs + count_by g xs → (y : A) × (f y ≡ true) × (g y ≡ true)
share_among c f g i j [] h = absurd (omega (arith, h))
share_among c f g i j (x ∷ xs) h =
    shared_at (c x) (f x) (g x) c f g x xs refl refl refl (i x) (j x) (share_among c f g i j xs)
    (let k = count_by-cons c x xs in let l = count_by-cons f x xs in let m = count_by-cons g x xs in omega (arith, k, l, m, h))

-- ---- two processes

one_process : (life : Actor → Life) (a b : Own) (nodes : List Actor) → a.actor ≡ b.actor → Most life a nodes → Most life b nodes
    → a.process ≡ b.process
one_process life a b nodes same h k =
    let second : Own = record b { actor = a.actor } in
    let most : Most life second nodes =
    subst (λ (x : Actor). Most life (record b { actor = x }) nodes) (sym same) k in
    let y =
    share_among (counts a.actor) (noted_by life a) (noted_by life second)
    (λ x e. (and_parts (counts a.actor x) (life_tells a.actor a.process (life x)) e).0)
    (λ x e. (and_parts (counts a.actor x) (life_tells a.actor b.process (life x)) e).0) nodes
    (let p = h.is in let q = most.is in omega (arith, p, q)) in
    let l = life y.0 in
    told_once (none_noted l.digest l.most) l.questions a.actor a.process b.process
    (and_parts (counts a.actor y.0) (life_tells a.actor a.process l) y.1).1
    (and_parts (counts a.actor y.0) (life_tells a.actor b.process l) y.2).1

pub processes_are_one : (life : Actor → Life) (a b : Own) (nodes : List Actor) (now later : ℕ) (es fs : List Event) → a.actor ≡ b.actor
    → IsAnswered life a es → IsAnswered life b fs → 0 < how_many a.actor (others_of a.actor nodes)
    → (run (opening a nodes now) es).standing ≡ Admitted → (run (opening b nodes later) fs).standing ≡ Admitted
    → a.process ≡ b.process
processes_are_one life a b nodes now later es fs same h k some x y =
    let asked = actors (others_of a.actor nodes) in
    let some_count : 0 < count_by (counts a.actor) asked =
    subst (λ (n : ℕ). 0 < n) (how_many-actors a.actor (others_of a.actor nodes)) some in
    let some_other : 0 < count_by (counts b.actor) asked =
    subst (λ (c : Actor). 0 < count_by (counts c) asked) same some_count in
    let same_asked : actors (others_of b.actor nodes) ≡ asked =
    subst (λ (c : Actor). actors (others_of c nodes) ≡ asked) same refl in
    one_process life a b asked same
    (most_by life a asked es (run (opening a nodes now) es) h (admitted_by_most a nodes now es x) (run_actors (opening a nodes now) es)
    some_count)
    (most_by life b asked fs (run (opening b nodes later) fs) k (admitted_by_most b nodes later fs y)
    (run_actors (opening b nodes later) fs ∙ same_asked) some_other)
