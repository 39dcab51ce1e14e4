-- Lists of open requests: as the code goes about them, and what becomes of their requests and of what is kept for each.
use Rattle.std.proofs.Common.{◌≡◌, ℕ, zero, suc, ◌+◌, ◌<◌, Bool, true, false, cond, List, [], ◌∷◌, ◌++◌, Option, Some, None, map}
use Rattle.std.proofs.Common.{refl, sym, ap, subst, ◌∙◌, arith, inl, inr, length, slice_index_or, slice_set}
use Rattle.std.specs.Prelude.{◌==◌, ◌||◌, ◌/◌, Result, Ok, Err, OnOk, OnErr, filter, find, not, nat_le, nat_lt}
use Rattle.std.specs.List.{AllByRecursion, position, position_from}
use Rattle.std.proofs.lemmas.Bool.{and_parts, eq-eqb, eqb-true, ltb-true, ne_eqb, or_right}
use Rattle.std.proofs.lemmas.Iterator.Adapters.{position_from-zero}
use Rattle.nop_types.specs.declared.limits.TheConstants.{WINDOW}
use Rattle.nop_types.specs.declared.output.Out.{Out}
use Rattle.nop_types.specs.declared.request.Request.{Request}
use Rattle.nop_types.specs.declared.datagram.Reply.{Reply}
use Rattle.nop_types.specs.declared.view.View.{View}
use Rattle.nop_types.specs.Lists.{Has}
use Rattle.nop_types.specs.Ranges.{ReplyFits}
use Rattle.lemmas.proofs.Members.{Has-none, Has-rest, Has-cases}
use Rattle.client_quorum.specs.ClientSteps.{sent}
use Rattle.client_quorum.specs.KeptReplies.{AreKept, keep_reply, quorum_of}
use Rattle.client_quorum.specs.Opens.{are_near, closed, has_id, is_empty, replies_for, requests_of, with_reply, OpenFits}
use Rattle.client_quorum.specs.declared.open_requests.Open.{Open}
use Rattle.client_quorum.proofs.KeptReplies.{kept_kept}

-- ---- requests of a list

pub empty_requests : (os : List Open) → is_empty (requests_of os) ≡ is_empty os
empty_requests [] = refl
empty_requests (o ∷ os) = refl

pub sent_requests : (os : List Open) → map sent (requests_of os) ≡ map (λ o. sent o.request) os
sent_requests [] = refl
sent_requests (o ∷ os) = ap (λ (l : List Out). sent o.request ∷ l) (sent_requests os)

pub few_requests : (os : List Open) → length (requests_of os) ≡ length os
few_requests [] = refl
few_requests (o ∷ os) = ap suc (few_requests os)

-- what holds of all holds of those that stay
pub all_stay : {X : Type 0} (P : X → Type 0) (t : X → Bool) (xs : List X) → AllByRecursion P xs → AllByRecursion P (filter t xs)
all_stay P t [] all = tt
all_stay P t (x ∷ xs) all = on (t x) (all_stay P t xs all.1)
  where
    on : (b : Bool) → AllByRecursion P (filter t xs) → AllByRecursion P (cond b (x ∷ filter t xs) (filter t xs))
    on true rest = (all.0, rest)
    on false rest = rest

-- ---- the one of an id

module _ (id : ℕ) where
  pub any_has : (os : List Open) → has_id os id ≡ true → (q : Request) × Has (requests_of os) q × (q.id ≡ id)
  any_has [] e = absurd cc
  any_has (o ∷ os) e = on (o.request.id == id) refl e (any_has os)
    where
      on : (b : Bool) → (o.request.id == id) ≡ b → (b || has_id os id) ≡ true
          → (has_id os id ≡ true → (q : Request) × Has (requests_of os) q × (q.id ≡ id))
          → (q : Request) × Has (requests_of (o ∷ os)) q × (q.id ≡ id)
      on true same f rest = (o.request, (zero, refl), eqb-true o.request.id id same)
      on false same f rest = let r = rest f in (r.0, Has-rest r.0 o.request (requests_of os) r.1, r.2)

  pub has_any : (os : List Open) (q : Request) → Has (requests_of os) q → q.id ≡ id → has_id os id ≡ true
  has_any [] q h e = absurd (Has-none q h)
  has_any (o ∷ os) q h e = elim (Has-cases q o.request (requests_of os) h) [
    | inl same ↦
        ap (λ (b : Bool). b || has_id os id) (eq-eqb o.request.id id (ap (λ (x : Request). x.id) (sym same) ∙ e))
    | inr rest ↦ or_right (o.request.id == id) (has_id os id) (has_any os q rest e)
  ]

  pub replies_open : (os : List Open) (p : Reply) → Has (replies_for os id) p → has_id os id ≡ true
  replies_open [] p h = absurd (Has-none p h)
  replies_open (o ∷ os) p h = on (o.request.id == id) h (replies_open os p)
    where
      on : (b : Bool) → Has (cond b o.replies (replies_for os id)) p → (Has (replies_for os id) p → has_id os id ≡ true)
          → (b || has_id os id) ≡ true
      on true g rest = refl
      on false g rest = rest g

pub near_each : (os : List Open) (last_id : ℕ) → are_near os last_id ≡ true → (q : Request) → Has (requests_of os) q
    → last_id + 1 < q.id + WINDOW
near_each [] last_id near q h = absurd (Has-none q h)
near_each (o ∷ os) last_id near q h =
    let both = and_parts (nat_lt (last_id + 1) (o.request.id + WINDOW)) (are_near os last_id) near in
    elim (Has-cases q o.request (requests_of os) h) [
      | inl same ↦
          let id : q.id ≡ o.request.id = ap (λ (x : Request). x.id) same in
          let less = ltb-true (last_id + 1) (o.request.id + WINDOW) both.0 in
          omega (arith, id, less)
      | inr rest ↦ near_each os last_id both.1 q rest
    ]

-- ---- one is opened

pub opened_requests : (os : List Open) (o : Open) → requests_of (os ++ o ∷ []) ≡ requests_of os ++ o.request ∷ []
opened_requests [] o = refl
opened_requests (x ∷ os) o = ap (λ (l : List Request). x.request ∷ l) (opened_requests os o)

in_each_case : (b : Bool) (kept : List Reply) → cond b kept kept ≡ kept
in_each_case true kept = refl
in_each_case false kept = refl

pub opened_replies : (os : List Open) (r : Request) (id : ℕ) → replies_for (os ++ record { request = r; replies = [] } ∷ []) id ≡ replies_for os id
opened_replies [] r id = in_each_case (r.id == id) []
opened_replies (o ∷ os) r id = ap (λ (l : List Reply). cond (o.request.id == id) o.replies l) (opened_replies os r id)

-- ---- a reply is kept

pub kept_requests : (os : List Open) (p : Reply) → requests_of (with_reply os p) ≡ requests_of os
kept_requests [] p = refl
kept_requests (o ∷ os) p = on (o.request.id == p.id) (kept_requests os p)
  where
    on : (b : Bool) → requests_of (with_reply os p) ≡ requests_of os
        → requests_of (cond b (record o { replies = keep_reply o.replies p } ∷ os) (o ∷ with_reply os p)) ≡ requests_of (o ∷ os)
    on true rest = refl
    on false rest = ap (λ (l : List Request). o.request ∷ l) rest

pub kept_here : (os : List Open) (p : Reply) → has_id os p.id ≡ true
    → replies_for (with_reply os p) p.id ≡ keep_reply (replies_for os p.id) p
kept_here [] p e = absurd cc
kept_here (o ∷ os) p e = on (o.request.id == p.id) refl e (kept_here os p)
  where
    on : (b : Bool) → (o.request.id == p.id) ≡ b → (b || has_id os p.id) ≡ true
        → (has_id os p.id ≡ true → replies_for (with_reply os p) p.id ≡ keep_reply (replies_for os p.id) p)
        → replies_for (cond b (record o { replies = keep_reply o.replies p } ∷ os) (o ∷ with_reply os p)) p.id
        ≡ keep_reply (cond b o.replies (replies_for os p.id)) p
    on true same f rest = rw same refl
    on false same f rest = rw same (rest f)

pub kept_others : (os : List Open) (p : Reply) (id : ℕ) → (id ≡ p.id → ⊥) → replies_for (with_reply os p) id ≡ replies_for os id
kept_others [] p id apart = refl
kept_others (o ∷ os) p id apart = on (o.request.id == p.id) refl (kept_others os p id apart)
  where
    on : (b : Bool) → (o.request.id == p.id) ≡ b → replies_for (with_reply os p) id ≡ replies_for os id
        → replies_for (cond b (record o { replies = keep_reply o.replies p } ∷ os) (o ∷ with_reply os p)) id
        ≡ cond (o.request.id == id) o.replies (replies_for os id)
    on true same rest =
        let other = ne_eqb o.request.id id (λ e. apart (sym e ∙ eqb-true o.request.id p.id same)) in
        rw other refl
    on false same rest = ap (λ (l : List Reply). cond (o.request.id == id) o.replies l) rest

-- ---- one is closed

pub closed_requests : (os : List Open) (id : ℕ) → requests_of (closed os id) ≡ filter (λ q. not (q.id == id)) (requests_of os)
closed_requests [] id = refl
closed_requests (o ∷ os) id = on (not (o.request.id == id)) (closed_requests os id)
  where
    on : (b : Bool) → requests_of (closed os id) ≡ filter (λ q. not (q.id == id)) (requests_of os)
        → requests_of (cond b (o ∷ closed os id) (closed os id))
        ≡ cond b (o.request ∷ filter (λ q. not (q.id == id)) (requests_of os)) (filter (λ q. not (q.id == id)) (requests_of os))
    on true rest = ap (λ (l : List Request). o.request ∷ l) rest
    on false rest = rest

pub closed_here : (os : List Open) (id : ℕ) → replies_for (closed os id) id ≡ []
closed_here [] id = refl
closed_here (o ∷ os) id = on (o.request.id == id) refl (closed_here os id)
  where
    on : (b : Bool) → (o.request.id == id) ≡ b → replies_for (closed os id) id ≡ []
        → replies_for (cond (not b) (o ∷ closed os id) (closed os id)) id ≡ []
    on true same rest = rest
    on false same rest = rw same rest

pub closed_others : (os : List Open) (id k : ℕ) → (k ≡ id → ⊥) → replies_for (closed os id) k ≡ replies_for os k
closed_others [] id k apart = refl
closed_others (o ∷ os) id k apart = on (o.request.id == id) refl (closed_others os id k apart)
  where
    on : (b : Bool) → (o.request.id == id) ≡ b → replies_for (closed os id) k ≡ replies_for os k
        → replies_for (cond (not b) (o ∷ closed os id) (closed os id)) k ≡ cond (o.request.id == k) o.replies (replies_for os k)
    on true same rest =
        let other = ne_eqb o.request.id k (λ e. apart (sym e ∙ eqb-true o.request.id id same)) in
        rw other rest
    on false same rest = ap (λ (l : List Reply). cond (o.request.id == k) o.replies l) rest

-- ---- what the code finds for an id

pub found_replies : (os : List Open) (id : ℕ) (o : Open) → find (λ x. x.request.id == id) os ≡ Some o → replies_for os id ≡ o.replies
found_replies [] id o e = absurd cc
found_replies (x ∷ os) id o e = on (x.request.id == id) e (found_replies os id o)
  where
    on : (b : Bool) → cond b (Some x) (find (λ y. y.request.id == id) os) ≡ Some o
        → (find (λ y. y.request.id == id) os ≡ Some o → replies_for os id ≡ o.replies)
        → cond b x.replies (replies_for os id) ≡ o.replies
    on true f rest = let same : x ≡ o = cc in ap (λ (y : Open). y.replies) same
    on false f rest = rest f

pub no_replies : (os : List Open) (id : ℕ) → find (λ x. x.request.id == id) os ≡ None → replies_for os id ≡ []
no_replies [] id e = refl
no_replies (x ∷ os) id e = on (x.request.id == id) e (no_replies os id)
  where
    on : (b : Bool) → cond b (Some x) (find (λ y. y.request.id == id) os) ≡ None
        → (find (λ y. y.request.id == id) os ≡ None → replies_for os id ≡ []) → cond b x.replies (replies_for os id) ≡ []
    on true f rest = absurd cc
    on false f rest = rest f

pub none_of_none : (n : ℕ) (view : View) (slot : ℕ) → quorum_of n [] view slot ≡ None
none_of_none n view slot = on (nat_le (n / 2 + 1) 0)
  where
    none : Option Reply
    none = None

    on : (b : Bool) → cond b none none ≡ none
    on true = refl
    on false = refl

-- ---- how the code keeps a reply

all_set : {X : Type 0} (P : X → Type 0) (xs : List X) (k : ℕ) (x : X) → AllByRecursion P xs → P x → AllByRecursion P (slice_set xs k x)
all_set P [] k x all one = tt
all_set P (y ∷ xs) zero x all one = (one, all.1)
all_set P (y ∷ xs) (suc k) x all one = (all.0, all_set P xs k x all.1 one)

-- the first request with the id of a reply, and what its change makes
pub record SetAt (os : List Open) (p : Reply) (n i : ℕ) : Type 0 where
  pub place : ℕ
  pub is : i ≡ n + place
  pub keeps : (d : Open) (new : List Reply) → d ≡ slice_index_or os place d → new ≡ keep_reply d.replies p
      → slice_set os place (record { request = d.request; replies = new }) ≡ with_reply os p
  pub fits : (d : Open) → AllByRecursion OpenFits os → d ≡ slice_index_or os place d → OpenFits d

set_from : (os : List Open) (p : Reply) (n i : ℕ) → position_from (λ o. o.request.id == p.id) n os ≡ Some i → SetAt os p n i
set_from [] p n i e = absurd cc
set_from (o ∷ os) p n i e = on (o.request.id == p.id) refl e (set_from os p (n + 1) i)
  where
    on : (b : Bool) → (o.request.id == p.id) ≡ b → cond b (Some n) (position_from (λ x. x.request.id == p.id) (n + 1) os) ≡ Some i
        → (position_from (λ x. x.request.id == p.id) (n + 1) os ≡ Some i → SetAt os p (n + 1) i) → SetAt (o ∷ os) p n i
    on true t f rest =
        let same : n ≡ i = cc in
        record {
          place = zero;
          is = omega (arith, same);
          keeps = λ d new is made.
              rw t (λ j. record { request = (is j).request; replies = (made ∙ ap (λ (x : Open). keep_reply x.replies p) is) j } ∷ os);
          fits = λ d all is. subst OpenFits (sym is) all.0;
        }
    on false t f rest =
        let r = rest f in
        record {
          place = suc r.place;
          is = let q = r.is in omega (arith, q);
          keeps = λ d new is made. rw t (ap (λ (xs : List Open). o ∷ xs) (r.keeps d new is made));
          fits = λ d all is. r.fits d all.1 is;
        }

pub set_first : (os : List Open) (p : Reply) (i : ℕ) → position (λ o. o.request.id == p.id) os ≡ Some i → SetAt os p 0 i
set_first os p i e = set_from os p 0 i (sym (position_from-zero (λ (o : Open). o.request.id == p.id) os) ∙ e)

pub none_first : (os : List Open) (p : Reply) → position (λ o. o.request.id == p.id) os ≡ None → os ≡ with_reply os p
none_first os p e = from os 0 (sym (position_from-zero (λ (o : Open). o.request.id == p.id) os) ∙ e)
  where
    from : (xs : List Open) (n : ℕ) → position_from (λ o. o.request.id == p.id) n xs ≡ None → xs ≡ with_reply xs p
    from [] n f = refl
    from (x ∷ xs) n f = on (x.request.id == p.id) f (from xs (n + 1))
      where
        on : (b : Bool) → cond b (Some n) (position_from (λ o. o.request.id == p.id) (n + 1) xs) ≡ None
            → (position_from (λ o. o.request.id == p.id) (n + 1) xs ≡ None → xs ≡ with_reply xs p)
            → x ∷ xs ≡ cond b (record x { replies = keep_reply x.replies p } ∷ xs) (x ∷ with_reply xs p)
        on true g rest = absurd cc
        on false g rest = ap (λ (l : List Open). x ∷ l) (rest g)

pub replies_fit : {A E : Type 0} (r : Result A E) (d : Open) (p : Reply) (new : List Reply) → OpenFits d → ReplyFits p
    → OnOk r (new ≡ keep_reply d.replies p) → OnErr r (new ≡ d.replies) → OpenFits (record { request = d.request; replies = new })
replies_fit (Ok x) d p new fits one ok err =
    record { request = fits.request; replies = subst AreKept (sym ok) (kept_kept p d.replies fits.replies one) }
replies_fit (Err x) d p new fits one ok err = record { request = fits.request; replies = subst AreKept (sym err) fits.replies }

pub all_fit : (os : List Open) (i : ℕ) (x : Open) → AllByRecursion OpenFits os → OpenFits x → AllByRecursion OpenFits (slice_set os i x)
all_fit os i x all one = all_set OpenFits os i x all one

pub on_ok : {A E : Type 0} {P Q : Type 0} (r : Result A E) → (P → Q) → OnOk r P → OnOk r Q
on_ok (Ok x) f h = f h
on_ok (Err e) f h = tt
