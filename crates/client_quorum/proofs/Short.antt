-- What a client keeps is no quorum.
use Rattle.std.proofs.Common.{◌≡◌, ℕ, ◌≤◌, Bool, true, false, cond, None, refl, sym, ap, subst, ◌∙◌, inl, inr, arith, List}
use Rattle.std.proofs.Common.{[], ◌∷◌, ◌++◌, length}
use Rattle.std.specs.Prelude.{◌==◌, not, filter}
use Rattle.std.proofs.lemmas.Bool.{cases_eq}
use Rattle.std.proofs.lemmas.Option.{none-some}
use Rattle.nop_types.specs.Configuration.{Configuration}
use Rattle.nop_types.specs.Given.{Given}
use Rattle.nop_types.specs.Lists.{Has}
use Rattle.nop_types.specs.declared.view.View.{View}
use Rattle.nop_types.specs.declared.request.Request.{Request}
use Rattle.nop_types.specs.declared.datagram.Reply.{Reply}
use Rattle.nop_types.specs.declared.output.Out.{Out}
use Rattle.lemmas.proofs.Members.{Has-none, Has-from_filter, Has-push_cases}
use Rattle.client_quorum.specs.declared.state.ClientState.{ClientState}
use Rattle.client_quorum.specs.ClientSteps.{accepts, is_expected, kept, next, opening, request_of, submitted}
use Rattle.client_quorum.specs.KeptReplies.{HasOneEach, keep_reply, matches, quorum_of}
use Rattle.client_quorum.specs.OpenRequests.{kept_for}
use Rattle.client_quorum.specs.Rows.{Row, Rests, SaysBusy, Opens, Repeats, Keeps, Accepts, quorum_with}
use Rattle.client_quorum.specs.Runs.{after, HasQuorum}
use Rattle.client_quorum.proofs.KeptReplies.{kept_one_each}
use Rattle.client_quorum.proofs.Quorums.{is_matched, matched, gets_quorum}
use Rattle.client_quorum.proofs.OpenRequests.{closes, expected_is_open, keeps, opening_keeps_none, opens, quorum_here}
use Rattle.client_quorum.proofs.RowLemmas.{row_of}

-- one that fails the test adds nothing
without_last : (m : Reply → Bool) (xs : List Reply) (p : Reply) → m p ≡ false → filter m (xs ++ p ∷ []) ≡ filter m xs
without_last m [] p e = ap (λ (b : Bool). cond b (p ∷ []) []) e
without_last m (x ∷ xs) p e = ap (λ (l : List Reply). cond (m x) (x ∷ l) l) (without_last m xs p e)

longer : (b : Bool) (x : Reply) (l k : List Reply) → length l ≤ length k → length (cond b (x ∷ l) l) ≤ length (cond b (x ∷ k) k)
longer true x l k h = omega (arith, h)
longer false x l k h = h

no_shorter : (b : Bool) (x : Reply) (l k : List Reply) → length l ≤ length k → length l ≤ length (cond b (x ∷ k) k)
no_shorter true x l k h = omega (arith, h)
no_shorter false x l k h = h

fewer_at : (m : Reply → Bool) (x : Reply) (left ks : List Reply) (b : Bool) → length (filter m left) ≤ length (filter m ks)
    → length (filter m (cond b (x ∷ left) left)) ≤ length (filter m (x ∷ ks))
fewer_at m x left ks true h = longer (m x) x (filter m left) (filter m ks) h
fewer_at m x left ks false h = no_shorter (m x) x (filter m left) (filter m ks) h

fewer_match : (m g : Reply → Bool) (ks : List Reply) → length (filter m (filter g ks)) ≤ length (filter m ks)
fewer_match m g [] = omega arith
fewer_match m g (x ∷ ks) = fewer_at m x (filter g ks) ks (g x) (fewer_match m g ks)

-- a quorum without the reply that came was there before
module _ (n : ℕ) (ks : List Reply) (p : Reply) (v : View) (slot : ℕ) (result : List ℕ) where
  before : matches v slot p ≡ false → HasQuorum n (keep_reply ks p) v slot result → HasQuorum n ks v slot result
  before e q =
      let same : length (filter (matches v slot) (keep_reply ks p))
      ≡ length (filter (matches v slot) (filter (λ k. not (k.replica == p.replica)) ks)) =
      ap (λ (l : List Reply). length l) (without_last (matches v slot) (filter (λ k. not (k.replica == p.replica)) ks) p e) in
      let fewer = fewer_match (matches v slot) (λ k. not (k.replica == p.replica)) ks in
      let enough = q.enough in
      let member : Has ks q.leaders = elim (Has-push_cases (filter (λ k. not (k.replica == p.replica)) ks) p q.leaders q.member) [
        | inl h ↦ (Has-from_filter (λ k. not (k.replica == p.replica)) q.leaders ks h).0
        | inr h ↦
            let is = is_matched v slot p (ap (λ (k : Reply). k.view) h ∙ q.at_view) (ap (λ (k : Reply). k.slot) h ∙ q.at_slot) in
            absurd cc
      ] in
      record {
        enough = omega (arith, same, fewer, enough);
        leaders = q.leaders;
        member = member;
        at_view = q.at_view;
        at_slot = q.at_slot;
        leads = q.leads;
        tagged = q.tagged;
        brings = q.brings;
      }

abbrev None_in : ℕ → List Reply → Type 0
None_in n ks = (v : View) (slot : ℕ) (result : List ℕ) → HasQuorum n ks v slot result → ⊥

record Short (n : ℕ) (s : ClientState) : Type 0 where
  replicas : s.config.replicas ≡ n
  one_each : (id : ℕ) → HasOneEach (kept_for s id)
  none : (id : ℕ) → None_in n (kept_for s id)

none_each : HasOneEach []
none_each r = omega arith

none_empty : (n : ℕ) → None_in n []
none_empty n v slot result q = Has-none q.leaders q.member

-- what is kept for one id is short
record ShortHere (n : ℕ) (kept : List Reply) : Type 0 where
  one_each : HasOneEach kept
  none : None_in n kept

short_from : (n : ℕ) (s : ClientState) → s.config.replicas ≡ n → ((id : ℕ) → ShortHere n (kept_for s id)) → Short n s
short_from n s replicas here = record { replicas = replicas; one_each = λ id. (here id).one_each; none = λ id. (here id).none }

module _ (n : ℕ) (s : ClientState) (short : Short n s) where
  at_id : (id : ℕ) → ShortHere n (kept_for s id)
  at_id id = record { one_each = short.one_each id; none = short.none id }

  opened_short : (r : Request) (waiting : List (List ℕ)) → Short n (submitted (record s { waiting = waiting }) r)
  opened_short r waiting = short_from n (submitted (record s { waiting = waiting }) r) short.replicas
      (λ id. subst (ShortHere n) (sym ((opens s r waiting).kept id)) (at_id id))

  module _ (p : Reply) (e : is_expected s p ≡ true) where
    abbrev its : List Reply
    its = keep_reply (kept_for s p.id) p

    still_none : quorum_of n its p.view p.slot ≡ None → None_in n its
    still_none is v slot result q = at (matches v slot p) refl
      where
        at : (b : Bool) → matches v slot p ≡ b → ⊥
        at true m =
            let place = matched v slot p m in
            let here : HasQuorum n its p.view p.slot result =
            subst (λ (w : View). HasQuorum n its w p.slot result) (sym place.0)
            (subst (λ (k : ℕ). HasQuorum n its v k result) (sym place.1) q) in
            let z = gets_quorum n its p.view p.slot result (kept_one_each p (kept_for s p.id) (short.one_each p.id)) here in
            none-some z.0 (sym is ∙ z.1)
        at false m = short.none p.id v slot result (before n (kept_for s p.id) p v slot result m q)

    -- what is kept for the reply's id is another list, and this one is short
    others_stay : (t : ClientState) → t.config.replicas ≡ s.config.replicas → ShortHere n (kept_for t p.id)
        → ((id : ℕ) → (id ≡ p.id → ⊥) → kept_for t id ≡ kept_for s id) → Short n t
    others_stay t replicas here others = short_from n t (replicas ∙ short.replicas) (λ id. elim (cases_eq id p.id) [
      | inl same ↦ subst (λ (i : ℕ). ShortHere n (kept_for t i)) (sym same) here
      | inr apart ↦ subst (ShortHere n) (sym (others id apart)) (at_id id)
    ])

    keeps_short : quorum_with s p ≡ None → Short n (kept s p)
    keeps_short is =
        let now = keeps s p (expected_is_open s p e) in
        let none : quorum_of n its p.view p.slot ≡ None =
        subst (λ (m : ℕ). quorum_of m its p.view p.slot ≡ None) short.replicas (sym (quorum_here s p e) ∙ is) in
        let here : ShortHere n its =
        record { one_each = kept_one_each p (kept_for s p.id) (short.one_each p.id); none = still_none none } in
        others_stay (kept s p) refl (subst (ShortHere n) (sym now.here) here) now.others

    closes_short : (leaders : Reply) → Short n (accepts (kept s p) p.id leaders)
    closes_short leaders =
        let now = keeps s p (expected_is_open s p e) in
        let then = closes (kept s p) p.id leaders in
        let empty : ShortHere n [] = record { one_each = none_each; none = none_empty n } in
        others_stay (accepts (kept s p) p.id leaders) refl (subst (ShortHere n) (sym then.here) empty)
        (λ id apart. then.others id apart ∙ now.others id apart)

row_short : (n : ℕ) (s : ClientState) (x : Given) → Short n s → (y : ClientState × List Out) → Row s x y → Short n y.0
row_short n s x short y (Rests nothing) = short
row_short n s x short y (SaysBusy op is busy) = short
row_short n s x short y (Opens op waiting may from) = opened_short n s short (request_of s op) waiting
row_short n s x short y (Repeats is) = short
row_short n s x short y (Keeps p has e quorum) = keeps_short n s short p e quorum
row_short n s x short y (Accepts p leaders has e quorum) = closes_short n s short p e leaders

short_after : (n : ℕ) (xs : List Given) (s : ClientState) → Short n s → Short n (after s xs)
short_after n [] s short = short
short_after n (x ∷ xs) s short = short_after n xs (next s x).0 (row_short n s x short (next s x) (row_of s x))

opening_short : (config : Configuration) (number : ℕ) (ops : List (List ℕ)) → Short config.replicas (opening config number ops)
opening_short config number ops = short_from config.replicas (opening config number ops) refl
    (λ id. subst (ShortHere config.replicas) (sym (opening_keeps_none config number ops id))
    (record { one_each = none_each; none = none_empty config.replicas }))

pub keeps_no_quorum : (config : Configuration) (number : ℕ) (ops : List (List ℕ)) (inputs : List Given) (id : ℕ) (v : View) (slot : ℕ)
    (result : List ℕ) → HasQuorum config.replicas (kept_for (after (opening config number ops) inputs) id) v slot result → ⊥
keeps_no_quorum config number ops inputs =
    (short_after config.replicas inputs (opening config number ops) (opening_short config number ops)).none
