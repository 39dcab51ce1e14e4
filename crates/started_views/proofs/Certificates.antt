-- Certificates, and what they say of started views.
use Rattle.std.proofs.Common.{◌≡◌, ℕ, ◌+◌, ◌*◌, ◌<◌, ◌≤◌, List, [], ◌∷◌, Some, refl, sym, subst, ◌∙◌, arith, inl, inr, map}
use Rattle.std.proofs.lemmas.List.{length-map}
use Rattle.std.proofs.lemmas.Option.{same_Some}
use Rattle.nop_types.specs.declared.view.View.{View}
use Rattle.nop_types.specs.declared.request.Entry.{Entry}
use Rattle.nop_types.specs.PlainChanges.{Change}
use Rattle.nop_types.specs.declared.datagram.Stamped.{Stamped}
use Rattle.nop_types.specs.Lists.{Has}
use Rattle.nop_types.specs.Views.{AtMost, Below, Comparable, first_view}
use Rattle.lemmas.proofs.Members.{Has-first, Has-rest}
use Rattle.lemmas.proofs.Views.{cases_View, AtMost-antisym, AtMost-trans, AtMost-from_ranks}
use Rattle.log_merge.specs.Starting.{greatest, kept}
use Rattle.started_views.specs.Past.{Past, HadLog, IsStarted}
use Rattle.started_views.specs.Quorums.{counts, Quorum}
use Rattle.started_views.specs.Settled.{Certificate}
use Rattle.started_views.specs.Started.{Grounds, StartedAreComparable}
use Rattle.started_views.proofs.Quorums.{quorums_share, counts_cases}
use Rattle.log_merge.proofs.Kept.{greatest_in, greatest_most, kept_from, kept_has}

-- ---- any certificate

-- one of the changes is of the replica
abbrev HasChangeOf : List Change → ℕ → Type 0
HasChangeOf cs r = (c : Change) × Has cs c × (c.sender ≡ r)

-- the replica had in w a log of which Q holds
abbrev HadOne : Past → View → (List Entry → Type 0) → ℕ → Type 0
HadOne past w Q r = (l : List Entry) × HadLog past r w l × Q l

counted_has_change : (cs : List Change) (k : ℕ) → 1 ≤ counts k (map (λ c. c.sender) cs) → HasChangeOf cs k
counted_has_change [] k h = absurd (omega (arith, h))
counted_has_change (c ∷ cs) k h =
    elim (counts_cases k c.sender (map (λ d. d.sender) cs) h) [
      | inl e ↦ (c, Has-first c c cs refl, e)
      | inr g ↦ let r = counted_has_change cs k g in (r.0, Has-rest r.0 c cs r.1, r.2)
    ]

-- the senders are a quorum
senders_are_quorum : (f : ℕ) (past : Past) (v : View) (cs : List Change) → Certificate f past v cs → Quorum f (HasChangeOf cs)
senders_are_quorum f past v cs c =
    record {
      members = map (λ d. d.sender) cs;
      enough = omega (arith, c.enough, length-map cs (λ (d : Change). d.sender));
      once = c.once;
      within = λ k h. let r = counted_has_change cs k h in subst (λ i. i < 2 * f + 1) r.2 (c.within r.0 r.1);
      holds = λ k h. counted_has_change cs k h;
    }

-- a quorum of logs of a view has one of a member
pub shared_member : (f : ℕ) (past : Past) (v w : View) (cs : List Change) (Q : List Entry → Type 0) → Certificate f past v cs
    → Quorum f (λ r. (l : List Entry) × HadLog past r w l × Q l)
    → (c : Change) × Has cs c × ((l : List Entry) × HadLog past c.sender w l × Q l)
shared_member f past v w cs Q c q =
    let r = quorums_share f (HasChangeOf cs) (HadOne past w Q) (senders_are_quorum f past v cs c) q in
    (r.2.0, r.2.1, (r.3.0, subst (λ i. HadLog past i w r.3.0) (sym r.2.2) r.3.1, r.3.2))

some_member : (f : ℕ) (past : Past) (v : View) (cs : List Change) → Certificate f past v cs
    → (d : Change) × Has cs d × (d.last_normal ≡ greatest cs)
some_member f past v [] c = absurd (omega (arith, c.enough))
some_member f past v (d ∷ ds) c = greatest_in d ds

module _ (f : ℕ) (stamps : List Stamped) (last_normal : ℕ → View) (past : Past) (h : Grounds f stamps last_normal past) where
  -- started views are comparable
  pub comparable : (v w : View) → IsStarted past v → IsStarted past w → Comparable v w
  comparable v w a b =
      elim (cases_View v first_view) [
        | inl e ↦ inl (rw e (record { leader = omega arith; session = h.session_positive w b }))
        | inr d ↦ elim (cases_View w first_view) [
          | inl e ↦ inr (rw e (record { leader = omega arith; session = h.session_positive v a }))
          | inr g ↦
              let c = h.certificate v a.0 a.1 d in
              let k = h.certificate w b.0 b.1 g in
              let r = quorums_share f (HasChangeOf c.0) (HasChangeOf k.0) (senders_are_quorum f past v c.0 c.1) (senders_are_quorum f past w k.0 k.1) in
              let x = r.2.0 in
              let y = r.3.0 in
              let same : y.sender ≡ x.sender = r.3.2 ∙ sym r.2.2 in
              let there : past.entry x.sender w ≡ Some (record {
                last_normal = y.last_normal;
                next = y.next;
                sync_point = y.sync_point;
                log = y.log;
              }) = subst (λ i. past.entry i w ≡ Some (record {
                last_normal = y.last_normal;
                next = y.next;
                sync_point = y.sync_point;
                log = y.log;
              })) same (k.1.entries y r.3.1) in
              h.entries_chain x.sender v w _ _ (c.1.entries x r.2.1) there
        ]
      ]

  module _ (v : View) (cs : List Change) (c : Certificate f past v cs) where
    -- a member had, when it entered v, a last normal view not below one that it had a log in
    pub reaches : (w : View) (d : Change) (l : List Entry) → Has cs d → HadLog past d.sender w l → Below w v → AtMost w d.last_normal
    reaches w d l here had below =
        elim (h.nothing_between d.sender v w _ l (c.entries d here) had) [
          | inl g ↦ g
          | inr g ↦ absurd (below.apart (AtMost-antisym w v below.at_most g))
        ]

    pub member_log : (d : Change) → Has cs d → HadLog past d.sender d.last_normal d.log
    member_log d here = h.entry_log d.sender v _ (c.entries d here)

    member_started : (d : Change) → Has cs d → IsStarted past d.last_normal
    member_started d here = (h.log_in_started d.sender d.last_normal d.log (member_log d here)).0

    pub greatest_started : IsStarted past (greatest cs)
    greatest_started = let r = some_member f past v cs c in subst (λ u. IsStarted past u) r.2 (member_started r.0 r.1)

    pub greatest_below : Below (greatest cs) v
    greatest_below = let r = some_member f past v cs c in subst (λ u. Below u v) r.2 (h.entry_order r.0.sender v _ (c.entries r.0 r.1))

    pub member_at_most : (d : Change) → Has cs d → AtMost d.last_normal (greatest cs)
    member_at_most d here =
        AtMost-from_ranks d.last_normal (greatest cs) (comparable d.last_normal (greatest cs) (member_started d here) greatest_started)
        (greatest_most cs d here)

    -- some change is kept, and each has the log of its sender in the greatest view
    pub some_kept : (d : Change) × Has (kept cs) d
    some_kept = let r = some_member f past v cs c in (r.0, kept_has cs r.0 r.1 r.2)

    pub kept_log : (d : Change) → Has (kept cs) d → HadLog past d.sender (greatest cs) d.log
    kept_log d here = let r = kept_from cs d here in subst (λ u. HadLog past d.sender u d.log) r.1 (member_log d r.0)

    -- the greatest view is not below one that has a quorum
    pub greatest_not_below : (w : View) (Q : List Entry → Type 0) → Quorum f (λ r. (l : List Entry) × HadLog past r w l × Q l) → Below w v
        → AtMost w (greatest cs)
    greatest_not_below w Q q below =
        let r = shared_member f past v w cs Q c q in
        AtMost-trans w r.0.last_normal (greatest cs) (reaches w r.0 r.2.0 r.1 r.2.1 below) (member_at_most r.0 r.1)

    -- where that view is the greatest, a kept log shows what a quorum shows
    pub kept_shows : (w : View) (Q : List Entry → Type 0) → w ≡ greatest cs → Quorum f (λ r. (l : List Entry) × HadLog past r w l × Q l)
        → Below w v → (d : Change) × Has (kept cs) d × Q d.log
    kept_shows w Q is q below =
        let r = shared_member f past v w cs Q c q in
        let d = r.0 in
        let low = reaches w d r.2.0 r.1 r.2.1 below in
        let high = subst (λ u. AtMost d.last_normal u) (sym is) (member_at_most d r.1) in
        let same : d.last_normal ≡ w = AtMost-antisym d.last_normal w high low in
        let had : HadLog past d.sender w d.log = subst (λ u. HadLog past d.sender u d.log) same (member_log d r.1) in
        let one : r.2.0 ≡ d.log = same_Some r.2.0 d.log (sym r.2.1 ∙ had) in
        (d, kept_has cs d r.1 (same ∙ is), subst Q one r.2.2)

pub started_are_comparable : StartedAreComparable
started_are_comparable f stamps last_normal past h v w a b = comparable f stamps last_normal past h v w a b
