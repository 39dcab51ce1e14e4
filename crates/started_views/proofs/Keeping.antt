-- Fixed prefixes are kept: by later starts, by the logs of later leaders, and by the log from which the history is read.
use Rattle.std.proofs.Common.{◌≡◌, ℕ, ◌+◌, ◌*◌, ◌<◌, ◌≤◌, List, length, take, refl, sym, ap, subst, ◌∙◌, arith, zero, suc, false, inl, inr}
use Rattle.std.proofs.Common.{length-take-le}
use Rattle.std.specs.Prelude.{◌⊎◌}
use Rattle.std.proofs.lemmas.Bool.{cases_lt}
use Rattle.std.proofs.lemmas.Option.{same_Some}
use Rattle.nop_types.specs.declared.view.View.{View}
use Rattle.nop_types.specs.declared.request.Entry.{Entry}
use Rattle.nop_types.specs.PlainChanges.{Change}
use Rattle.nop_types.specs.declared.datagram.Stamped.{Stamped}
use Rattle.nop_types.specs.Lists.{IsPrefixOf}
use Rattle.nop_types.specs.Views.{AtMost, Below, first_view, leader_of, outranks}
use Rattle.lemmas.proofs.Prefixes.{IsPrefixOf-take, IsPrefixOf-trans}
use Rattle.lemmas.proofs.Views.{cases_View, same_View, AtMost-antisym, AtMost-trans, Below-after_at_most, AtMost-not_outranked}
use Rattle.lemmas.proofs.Views.{Below-induction, same_View-from_ranks, RanksAtMost, RanksAtMost-refl, RanksAtMost-trans, RanksAtMost-cases}
use Rattle.lemmas.proofs.Views.{outranks-from_ranks}
use Rattle.log_merge.specs.Merge.{merge}
use Rattle.log_merge.specs.Starting.{Start, greatest, kept, start_of}
use Rattle.started_views.specs.Logs.{SameTo}
use Rattle.started_views.specs.Past.{Past, HadLog, LeaderHad, IsStart, IsStarted}
use Rattle.started_views.specs.Settled.{Certificate, Fixed, Anchored, MainLog}
use Rattle.started_views.specs.Started.{Grounds, FixedPrefixesAreKept, MainLogHasFixed, SynchronisedAgree}
use Rattle.started_views.proofs.Logs.{same_from_prefix}
use Rattle.started_views.proofs.Quorums.{leader_within}
use Rattle.started_views.proofs.Certificates.{comparable, greatest_started, greatest_below, greatest_not_below}
use Rattle.started_views.proofs.Passing.{passes_later, passes_same}

module _ (f : ℕ) (stamps : List Stamped) (last_normal : ℕ → View) (past : Past) (h : Grounds f stamps last_normal past) where
  fixed_started : (w : View) (m : List Entry) (s : ℕ) → Fixed f past w m s → IsStarted past w
  fixed_started w m s fixed = (h.log_in_started (leader_of w (2 * f + 1)) w m fixed.leads).0

  -- no view that is started lies below the first
  not_first : (w v : View) → IsStarted past w → Below w v → v ≡ first_view → ⊥
  not_first w v is below e =
      let low : w.leader ≤ 0 = omega (arith, below.at_most.leader, ap (λ (t : View). t.leader) e) in
      let pos = h.session_positive w is in
      let top : w.session ≤ 1 = omega (arith, below.at_most.session, ap (λ (t : View). t.session) e) in
      below.apart (same_View w first_view (omega (arith, low)) (omega (arith, pos, top)) ∙ sym e)

  -- one certificate, where the views before it keep the prefix
  certificate_has_fixed : (w v : View) (cs : List Change) (m : List Entry) (s : ℕ) → Certificate f past v cs → Fixed f past w m s
      → Below w v
      → ((u : View) (y : Start) → Below u v → Below w u → IsStart past u y → IsPrefixOf (take s m) y.log)
      → IsPrefixOf (take s m) (merge (kept cs))
  certificate_has_fixed w v cs m s c fixed below earlier =
      elim (cases_View w (greatest cs)) [
        | inl same ↦ passes_same f stamps last_normal past h v w cs c m s fixed below same
        | inr apart ↦
            let g = greatest_started f stamps last_normal past h v cs c in
            let low : AtMost w (greatest cs) =
            greatest_not_below f stamps last_normal past h v cs c w (λ l. s ≤ length l) fixed.reached below in
            passes_later f stamps last_normal past h v w cs c m s fixed below g.0 g.1
            (earlier (greatest cs) g.0 (greatest_below f stamps last_normal past h v cs c) (record { at_most = low; apart = apart }) g.1)
      ]

  fixed_begins_start : (w : View) (m : List Entry) (s : ℕ) → Fixed f past w m s → (v : View) → Below w v → (x : Start) → IsStart past v x
      → IsPrefixOf (take s m) x.log
  fixed_begins_start w m s fixed = Below-induction (λ v. Below w v → (x : Start) → IsStart past v x → IsPrefixOf (take s m) x.log) step
    where
      step : (v : View) → ((u : View) → Below u v → Below w u → (x : Start) → IsStart past u x → IsPrefixOf (take s m) x.log) → Below w v
          → (x : Start) → IsStart past v x → IsPrefixOf (take s m) x.log
      step v earlier below x is =
          let c = h.certificate v x is (not_first w v (fixed_started w m s fixed) below) in
          subst (λ (t : Start). IsPrefixOf (take s m) t.log) (sym c.2)
          (certificate_has_fixed w v c.0 m s c.1 fixed below (λ u y lower upper started. earlier u lower upper y started))

  -- whatever certificate a view gets, its start begins with each prefix that is fixed below it
  pub certificate_begins_start : (w v : View) (cs : List Change) (m : List Entry) (s : ℕ) → Certificate f past v cs → Fixed f past w m s
      → Below w v → IsPrefixOf (take s m) (start_of v cs).log
  certificate_begins_start w v cs m s c fixed below =
      certificate_has_fixed w v cs m s c fixed below (λ u y lower upper started. fixed_begins_start w m s fixed u upper y started)

  last_normal_at_most_main : (v : View) (a : List Entry) → MainLog f last_normal past v a → IsStarted past v → (r : ℕ) → r < 2 * f + 1
      → AtMost (last_normal r) v
  last_normal_at_most_main v a main started r l =
      let now = h.current_log r l in
      let there = (h.log_in_started r (last_normal r) now.0 now.1).0 in
      AtMost-not_outranked (last_normal r) v (comparable f stamps last_normal past h (last_normal r) v there started) (main.greatest r l)

  main_started : (v : View) (a : List Entry) → MainLog f last_normal past v a → IsStarted past v
  main_started v a main =
      let r = main.held.0 in
      let now = h.current_log r main.held.1 in
      subst (λ u. IsStarted past u) main.held.2 (h.log_in_started r (last_normal r) now.0 now.1).0

  -- the leader of the greatest last normal view is still in it
  pub main_leads : (v : View) (a : List Entry) → MainLog f last_normal past v a → LeaderHad f past v a
  main_leads v a main =
      let started = main_started v a main in
      let lead = h.started_has_leader v started in
      let q = leader_of v (2 * f + 1) in
      let low = (h.log_in_started q v lead.0 lead.1).1 in
      let high = last_normal_at_most_main v a main started q (leader_within f v) in
      subst (λ u. HadLog past q u a) (AtMost-antisym (last_normal q) v high low) main.current

  -- each leader's log of a view at or above w begins with the prefix
  pub leader_begins : (w v : View) (m a : List Entry) (s : ℕ) → Fixed f past w m s → AtMost w v → LeaderHad f past v a
      → IsPrefixOf (take s m) a
  leader_begins w v m a s fixed low lead =
      let started = (h.log_in_started (leader_of v (2 * f + 1)) v a lead).0 in
      elim (cases_View w v) [
        | inl same ↦
            let one : m ≡ a = same_Some m a (sym (subst (λ u. LeaderHad f past u m) same fixed.leads) ∙ lead) in
            subst (λ t. IsPrefixOf (take s m) t) one (IsPrefixOf-take s m)
        | inr apart ↦
            IsPrefixOf-trans (take s m) started.0.log a
            (fixed_begins_start w m s fixed v (record { at_most = low; apart = apart }) started.0 started.1)
            (h.begins_with_start (leader_of v (2 * f + 1)) v a started.0 lead started.1)
      ]

  main_has_fixed : (v w : View) (a m : List Entry) (s : ℕ) → MainLog f last_normal past v a → Fixed f past w m s → IsPrefixOf (take s m) a
  main_has_fixed v w a m s main fixed =
      let q = leader_of w (2 * f + 1) in
      let low = last_normal_at_most_main v a main (main_started v a main) q (leader_within f w) in
      leader_begins w v m a s fixed (AtMost-trans w (last_normal q) v (h.log_in_started q w m fixed.leads).1 low) (main_leads v a main)

  -- what a replica has up to its sync point is nothing, or a prefix that is fixed in a view at most its own
  anchored_agrees : (u : View) (b l : List Entry) (s : ℕ) → LeaderHad f past u b → SameTo s l b → (w : View) → AtMost w u → (m : List Entry)
      → Fixed f past w m s → take s m ≡ take s l
  anchored_agrees u b l s lead same w low m fixed =
      let long : s ≤ length (take s m) = omega (arith, length-take-le s m fixed.within) in
      (same_from_prefix s (take s m) m b long (IsPrefixOf-take s m) (leader_begins w u m b s fixed low lead)).same ∙ sym same.same

  synchronised_begins : (u : View) (b l k : List Entry) (s : ℕ) → LeaderHad f past u b → SameTo s l b → Anchored f past u s
      → ((w : View) → AtMost w u → (m : List Entry) → Fixed f past w m s → IsPrefixOf (take s m) k) → IsPrefixOf (take s l) k
  synchronised_begins u b l k s lead same (inl e) fixed = rw e (k, refl)
  synchronised_begins u b l k s lead same (inr (w, low, m, at)) fixed =
      subst (λ t. IsPrefixOf t k) (anchored_agrees u b l s lead same w low m at) (fixed w low m at)

  -- whatever a later view is started with, and its leader's log, begin with it
  pub certificate_synchronised : (u v : View) (cs : List Change) (b l : List Entry) (s : ℕ) → LeaderHad f past u b → SameTo s l b
      → Anchored f past u s → Certificate f past v cs → Below u v → IsPrefixOf (take s l) (start_of v cs).log
  certificate_synchronised u v cs b l s lead same at c below =
      synchronised_begins u b l (start_of v cs).log s lead same at
      (λ w low m fixed. certificate_begins_start w v cs m s c fixed (Below-after_at_most w u v low below))

  pub start_synchronised : (u v : View) (x : Start) (b l : List Entry) (s : ℕ) → LeaderHad f past u b → SameTo s l b → Anchored f past u s
      → IsStart past v x → Below u v → IsPrefixOf (take s l) x.log
  start_synchronised u v x b l s lead same at is below =
      synchronised_begins u b l x.log s lead same at
      (λ w low m fixed. fixed_begins_start w m s fixed v (Below-after_at_most w u v low below) x is)

  pub leader_synchronised : (u v : View) (a b l : List Entry) (s : ℕ) → LeaderHad f past u b → SameTo s l b → Anchored f past u s
      → LeaderHad f past v a → AtMost u v → IsPrefixOf (take s l) a
  leader_synchronised u v a b l s lead same at leads le =
      synchronised_begins u b l a s lead same at (λ w low m fixed. leader_begins w v m a s fixed (AtMost-trans w u v low le) leads)

  main_agrees : (v u : View) (a b l : List Entry) (s : ℕ) → MainLog f last_normal past v a → LeaderHad f past u b → SameTo s l b
      → Anchored f past u s → IsPrefixOf (take s l) a
  main_agrees v u a b l s main lead same at =
      synchronised_begins u b l a s lead same at (λ w low m fixed. main_has_fixed v w a m s main fixed)

-- an anchor of a view is one of each view above it
pub anchored_later : (f : ℕ) (past : Past) (u v : View) (s : ℕ) → AtMost u v → Anchored f past u s → Anchored f past v s
anchored_later f past u v s le (inl e) = inl e
anchored_later f past u v s le (inr (w, low, m, fixed)) = inr (w, AtMost-trans w u v low le, m, fixed)

-- ---- the log from which the history is read

pub main_log_is_one : (f : ℕ) (last_normal : ℕ → View) (past : Past) (v w : View) (a b : List Entry) → MainLog f last_normal past v a
    → MainLog f last_normal past w b → (v ≡ w) × (a ≡ b)
main_log_is_one f last_normal past v w a b h g =
    let low = subst (λ t. outranks t w ≡ false) h.held.2 (g.greatest h.held.0 h.held.1) in
    let high = subst (λ t. outranks t v ≡ false) g.held.2 (h.greatest g.held.0 g.held.1) in
    let same : v ≡ w = same_View-from_ranks v w low high in
    let q = leader_of w (2 * f + 1) in
    let had : HadLog past q (last_normal q) a =
    subst (λ t. HadLog past (leader_of t (2 * f + 1)) (last_normal (leader_of t (2 * f + 1))) a) same h.current in
    (same, same_Some a b (sym had ∙ g.current))

-- of the first n + 1 views one is outranked by none
greatest_of : (views : ℕ → View) (n : ℕ) → (q : ℕ) × (q < suc n) × ((r : ℕ) → r < suc n → RanksAtMost (views r) (views q))
greatest_of views zero = (0, omega arith, λ r l. let e : r ≡ 0 = omega (arith, l) in rw e (RanksAtMost-refl (views 0)))
greatest_of views (suc n) = pick (greatest_of views n) (RanksAtMost-cases (views (suc n)) (views (greatest_of views n).0))
  where
    pick : (g : (q : ℕ) × (q < suc n) × ((r : ℕ) → r < suc n → RanksAtMost (views r) (views q)))
        → RanksAtMost (views (suc n)) (views g.0) ⊎ RanksAtMost (views g.0) (views (suc n))
        → (q : ℕ) × (q < suc (suc n)) × ((r : ℕ) → r < suc (suc n) → RanksAtMost (views r) (views q))
    pick g (inl low) = (
      g.0,
      omega (arith, g.1),
      λ r l. elim (cases_lt r (suc n)) [
        | inl k ↦ g.2 r k
        | inr k ↦ let e : r ≡ suc n = omega (arith, l, k) in rw e low
      ],
    )
    pick g (inr high) = (
      suc n,
      omega arith,
      λ r l. elim (cases_lt r (suc n)) [
        | inl k ↦ RanksAtMost-trans (views r) (views g.0) (views (suc n)) (g.2 r k) high
        | inr k ↦ let e : r ≡ suc n = omega (arith, l, k) in rw e (RanksAtMost-refl (views (suc n)))
      ],
    )

pub main_log_exists : (f : ℕ) (stamps : List Stamped) (last_normal : ℕ → View) (past : Past) → Grounds f stamps last_normal past
    → (v : View) × (a : List Entry) × MainLog f last_normal past v a
main_log_exists f stamps last_normal past h =
    let g = greatest_of last_normal (2 * f) in
    let v = last_normal g.0 in
    let l = h.current_log (leader_of v (2 * f + 1)) (leader_within f v) in (
      v,
      l.0,
      record {
        held = (g.0, omega (arith, g.1), refl);
        greatest = λ r k. outranks-from_ranks (last_normal r) v (g.2 r (omega (arith, k)));
        current = l.1;
      },
    )

pub fixed_prefixes_are_kept : FixedPrefixesAreKept
fixed_prefixes_are_kept f stamps last_normal past h w v m s x fixed below is =
    fixed_begins_start f stamps last_normal past h w m s fixed v below x is

pub main_log_has_fixed : MainLogHasFixed
main_log_has_fixed f stamps last_normal past h = main_has_fixed f stamps last_normal past h

pub synchronised_agree : SynchronisedAgree
synchronised_agree f stamps last_normal past h = main_agrees f stamps last_normal past h
