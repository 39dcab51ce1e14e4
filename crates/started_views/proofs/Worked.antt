-- The worked pasts: what they have, and that they meet the grounds.
use Rattle.std.proofs.Common.{◌≡◌, ℕ, zero, suc, ◌+◌, ◌-◌, ◌*◌, ◌<◌, ◌≤◌, Bool, true, false, List, [], ◌∷◌, ◌++◌, length, Some, refl, sym}
use Rattle.std.proofs.Common.{ap, subst, ◌∙◌, arith, inl, inr}
use Rattle.std.specs.Prelude.{◌⊎◌}
use Rattle.std.proofs.lemmas.Bool.Decides.{nat_tests}
use Rattle.nop_types.specs.declared.view.View.{View}
use Rattle.nop_types.specs.declared.request.Request.{Request}
use Rattle.nop_types.specs.declared.request.Entry.{Entry}
use Rattle.nop_types.specs.declared.request.Entry.TheVariants.{NoOp, Req}
use Rattle.nop_types.specs.PlainChanges.{Change}
use Rattle.nop_types.specs.declared.datagram.Stamped.{Stamped}
use Rattle.nop_types.specs.Lists.{Has, IsPrefixOf, slot_of}
use Rattle.nop_types.specs.Stamps.{WasStamped}
use Rattle.nop_types.specs.Views.{AtMost, Below, Comparable, first_view, is_view}
use Rattle.lemmas.proofs.Members.{Has-cases, Has-none}
use Rattle.lemmas.proofs.Views.{is_view-true, AtMost-same}
use Rattle.log_merge.specs.Starting.{Start, start_of}
use Rattle.started_views.specs.Past.{Entered, Past, HadLog, LeaderHad, IsStart, IsStarted}
use Rattle.started_views.specs.Settled.{Certificate}
use Rattle.started_views.specs.Started.{Grounds}
use Rattle.started_views.specs.Worked.{second_view, request_of, stamp_of, worked_stamps, leader_log, follower_log, second_start}
use Rattle.started_views.specs.Worked.{worked_logs, worked_starts, worked_entries, worked_past, worked_last_normal}

-- what is in slot 2 of replica 1: a NO-OP, or the request of that number
abbrev pub Second : Entry → Type 0
Second x = (x ≡ NoOp) ⊎ (x ≡ Req (request_of 2))

abbrev first_start : Start
first_start = record { next = 1; log = [] }

abbrev second_log : Entry → List Entry
second_log x = follower_log x ++ NoOp ∷ []

pub data Logged (x : Entry) (r : ℕ) (w : View) (l : List Entry) : Type 0 where
  Leader : w ≡ first_view → r ≡ 0 → l ≡ leader_log → Logged x r w l
  Follower : w ≡ first_view → r ≡ 1 → l ≡ follower_log x → Logged x r w l
  Other : w ≡ first_view → r ≡ 2 → l ≡ follower_log (Req (request_of 2)) → Logged x r w l
  Next : w ≡ second_view → r ≡ 1 → l ≡ second_log x → Logged x r w l

pub logged : (x : Entry) (r : ℕ) (w : View) (l : List Entry) → HadLog (worked_past x) r w l → Logged x r w l
logged x r w l e = step r (is_view w first_view) (is_view w second_view) refl refl e
  where
    step : (r : ℕ) (a b : Bool) → is_view w first_view ≡ a → is_view w second_view ≡ b → worked_logs x r a b ≡ Some l → Logged x r w l
    step zero true b g h e = Leader (is_view-true w first_view g) refl cc
    step (suc zero) true b g h e = Follower (is_view-true w first_view g) refl cc
    step (suc (suc zero)) true b g h e = Other (is_view-true w first_view g) refl cc
    step (suc (suc (suc r))) true true g h e = absurd cc
    step (suc (suc (suc r))) true false g h e = absurd cc
    step zero false true g h e = absurd cc
    step zero false false g h e = absurd cc
    step (suc zero) false true g h e = Next (is_view-true w second_view h) refl cc
    step (suc zero) false false g h e = absurd cc
    step (suc (suc zero)) false true g h e = absurd cc
    step (suc (suc zero)) false false g h e = absurd cc
    step (suc (suc (suc r))) false true g h e = absurd cc
    step (suc (suc (suc r))) false false g h e = absurd cc

data Begun (x : Entry) (w : View) (s : Start) : Type 0 where
  First : w ≡ first_view → s ≡ first_start → Begun x w s
  Later : w ≡ second_view → s ≡ second_start x → Begun x w s

begun : (x : Entry) (w : View) (s : Start) → IsStart (worked_past x) w s → Begun x w s
begun x w s e = step (is_view w first_view) (is_view w second_view) refl refl e
  where
    step : (a b : Bool) → is_view w first_view ≡ a → is_view w second_view ≡ b → worked_starts x a b ≡ Some s → Begun x w s
    step true b g h e = First (is_view-true w first_view g) cc
    step false true g h e = Later (is_view-true w second_view h) cc
    step false false g h e = absurd cc

abbrev first_entry : Entry → Entered
first_entry x = record { last_normal = first_view; next = 3; sync_point = 0; log = follower_log x }

data Came (x : Entry) (r : ℕ) (w : View) (e : Entered) : Type 0 where
  One : w ≡ second_view → r ≡ 1 → e ≡ first_entry x → Came x r w e
  Two : w ≡ second_view → r ≡ 2 → e ≡ first_entry (Req (request_of 2)) → Came x r w e

came : (x : Entry) (r : ℕ) (w : View) (e : Entered) → (worked_past x).entry r w ≡ Some e → Came x r w e
came x r w e is = step r (is_view w second_view) refl is
  where
    step : (r : ℕ) (b : Bool) → is_view w second_view ≡ b → worked_entries x r b ≡ Some e → Came x r w e
    step zero true h e = absurd cc
    step zero false h e = absurd cc
    step (suc zero) true h e = One (is_view-true w second_view h) refl cc
    step (suc zero) false h e = absurd cc
    step (suc (suc zero)) true h e = Two (is_view-true w second_view h) refl cc
    step (suc (suc zero)) false h e = absurd cc
    step (suc (suc (suc r))) true h e = absurd cc
    step (suc (suc (suc r))) false h e = absurd cc

pub views_apart : first_view ≡ second_view → ⊥
views_apart e = absurd (let l = ap (λ (t : View). t.leader) e in omega (arith, l))

pub first_below_second : Below first_view second_view
first_below_second = record { at_most = record { leader = omega arith; session = omega arith }; apart = views_apart }

came_to : (x : Entry) (r : ℕ) (w : View) (e : Entered) → Came x r w e → (w ≡ second_view) × (e.last_normal ≡ first_view)
came_to x r w e (One v q is) = (v, ap (λ (t : Entered). t.last_normal) is)
came_to x r w e (Two v q is) = (v, ap (λ (t : Entered). t.last_normal) is)

-- ---- stamps

same_stamp : (n k i : ℕ) (q : Request) → stamp_of i ≡ record { session = n; number = k; request = q } → q ≡ request_of k
same_stamp n k i q e = sym (ap (λ (t : Stamped). t.request) e) ∙ ap (λ (t : Stamped). request_of t.number) e

stamped_is : (n k : ℕ) (q : Request) → WasStamped worked_stamps n k q → q ≡ request_of k
stamped_is n k q (zero, e) = same_stamp n k 1 q cc
stamped_is n k q (suc zero, e) = same_stamp n k 2 q cc
stamped_is n k q (suc (suc zero), e) = same_stamp n k 3 q cc
stamped_is n k q (suc (suc (suc i)), e) = absurd cc

stamped_once : (n k : ℕ) (a b : Request) → WasStamped worked_stamps n k a → WasStamped worked_stamps n k b → a ≡ b
stamped_once n k a b h g = stamped_is n k a h ∙ sym (stamped_is n k b g)

-- each request of the log l is in the slot of its number
abbrev Numbered : View → Start → List Entry → Type 0
Numbered w s l =
    (k : ℕ) (q : Request) → length s.log < k → slot_of l k ≡ Some (Req q)
    → WasStamped worked_stamps w.session (s.next + (k - length s.log - 1)) q

leader_numbered : Numbered first_view first_start leader_log
leader_numbered zero q h e = absurd cc
leader_numbered (suc zero) q h e = let same : request_of 1 ≡ q = cc in rw (← same) (0, refl)
leader_numbered (suc (suc zero)) q h e = absurd cc
leader_numbered (suc (suc (suc zero))) q h e = let same : request_of 3 ≡ q = cc in rw (← same) (2, refl)
leader_numbered (suc (suc (suc (suc i)))) q h e = absurd cc

follower_numbered : (x : Entry) → Second x → Numbered first_view first_start (follower_log x)
follower_numbered x c zero q h e = absurd cc
follower_numbered x c (suc zero) q h e = let same : request_of 1 ≡ q = cc in rw (← same) (0, refl)
follower_numbered x (inl n) (suc (suc zero)) q h e = absurd cc
follower_numbered x (inr n) (suc (suc zero)) q h e = let same : request_of 2 ≡ q = cc in rw (← same) (1, refl)
follower_numbered x c (suc (suc (suc i))) q h e = absurd cc

second_numbered : (x : Entry) → Numbered second_view (second_start x) (second_log x)
second_numbered x zero q h e = absurd cc
second_numbered x (suc zero) q h e = absurd (omega (arith, h))
second_numbered x (suc (suc zero)) q h e = absurd (omega (arith, h))
second_numbered x (suc (suc (suc zero))) q h e = absurd cc
second_numbered x (suc (suc (suc (suc i)))) q h e = absurd cc

numbered_at : (v w : View) (s t : Start) (l m : List Entry) → w ≡ v → t ≡ s → m ≡ l → Numbered v s l → Numbered w t m
numbered_at v w s t l m e g h n = rw (e, g, h) n

-- ---- NO-OPs

-- each NO-OP of l is in m too
abbrev NoOpsIn : List Entry → List Entry → Type 0
NoOpsIn m l = (k : ℕ) → slot_of l k ≡ Some NoOp → slot_of m k ≡ Some NoOp

follower_noops : (x : Entry) → NoOpsIn leader_log (follower_log x)
follower_noops x zero e = absurd cc
follower_noops x (suc zero) e = absurd cc
follower_noops x (suc (suc zero)) e = refl
follower_noops x (suc (suc (suc i))) e = absurd cc

noops_at : (m l k n : List Entry) → m ≡ k → l ≡ n → NoOpsIn k n → NoOpsIn m l
noops_at m l k n e g h = rw (e, g) h

-- ---- what the followers told

abbrev change_of : ℕ → Entry → Change
change_of r x = record { sender = r; last_normal = first_view; next = 3; sync_point = 0; log = follower_log x }

abbrev changes : Entry → List Change
changes x = change_of 1 x ∷ change_of 2 (Req (request_of 2)) ∷ []

change_cases : (x : Entry) (d : Change) → Has (changes x) d → (d ≡ change_of 1 x) ⊎ (d ≡ change_of 2 (Req (request_of 2)))
change_cases x d h =
    elim (Has-cases d (change_of 1 x) (change_of 2 (Req (request_of 2)) ∷ []) h) [
      | inl e ↦ inl e
      | inr g ↦ elim (Has-cases d (change_of 2 (Req (request_of 2))) [] g) [ inl e ↦ inr e | inr n ↦ absurd (Has-none d n) ]
    ]

certified : (x : Entry) → Certificate 1 (worked_past x) second_view (changes x)
certified x =
    record {
      enough = omega arith;
      once = λ k. grind (arith, nat_tests);
      within = λ d h. elim (change_cases x d h) [
        | inl e ↦ omega (arith, ap (λ (t : Change). t.sender) e)
        | inr e ↦ omega (arith, ap (λ (t : Change). t.sender) e)
      ];
      entries = λ d h. elim (change_cases x d h) [ inl e ↦ rw e refl | inr e ↦ rw e refl ];
    }

opened_is : (x : Entry) → Second x → second_start x ≡ start_of second_view (changes x)
opened_is x (inl e) = rw e refl
opened_is x (inr e) = rw e refl

-- ---- the grounds

module _ (x : Entry) (c : Second x) where
  abbrev past : Past
  past = worked_past x

  leader_had : (w : View) (m : List Entry) → IsStarted past w → LeaderHad 1 past w m
      → ((w ≡ first_view) × (m ≡ leader_log)) ⊎ ((w ≡ second_view) × (m ≡ second_log x))
  leader_had w m (s, is) lead = at (begun x w s is)
    where
      at : Begun x w s → ((w ≡ first_view) × (m ≡ leader_log)) ⊎ ((w ≡ second_view) × (m ≡ second_log x))
      at (First e g) = inl (e, let had : HadLog past 0 first_view m = subst (λ u. LeaderHad 1 past u m) e lead in cc)
      at (Later e g) = inr (e, let had : HadLog past 1 second_view m = subst (λ u. LeaderHad 1 past u m) e lead in cc)

  session_positive : (w : View) → IsStarted past w → 1 ≤ w.session
  session_positive w (s, is) = at (begun x w s is)
    where
      at : Begun x w s → 1 ≤ w.session
      at (First e g) = omega (arith, ap (λ (t : View). t.session) e)
      at (Later e g) = omega (arith, ap (λ (t : View). t.session) e)

  current_log : (r : ℕ) → r < 2 * 1 + 1 → (l : List Entry) × HadLog past r (worked_last_normal r) l
  current_log zero lt = (leader_log, refl)
  current_log (suc zero) lt = (second_log x, refl)
  current_log (suc (suc zero)) lt = (follower_log (Req (request_of 2)), refl)
  current_log (suc (suc (suc r))) lt = absurd (omega arith)

  first_at_most : (r : ℕ) → AtMost first_view (worked_last_normal r)
  first_at_most zero = record { leader = omega arith; session = omega arith }
  first_at_most (suc zero) = record { leader = omega arith; session = omega arith }
  first_at_most (suc (suc r)) = record { leader = omega arith; session = omega arith }

  in_first : (r : ℕ) (w : View) → w ≡ first_view → IsStarted past w × AtMost w (worked_last_normal r)
  in_first r w e = subst (λ u. IsStarted past u × AtMost u (worked_last_normal r)) (sym e) ((first_start, refl), first_at_most r)

  in_second : (r : ℕ) (w : View) → w ≡ second_view → r ≡ 1 → IsStarted past w × AtMost w (worked_last_normal r)
  in_second r w e q =
      subst (λ u. IsStarted past u × AtMost u (worked_last_normal r)) (sym e) (
        (second_start x, refl),
        AtMost-same second_view (worked_last_normal r) (ap worked_last_normal (sym q)),
      )

  log_in_started : (r : ℕ) (w : View) (l : List Entry) → HadLog past r w l → IsStarted past w × AtMost w (worked_last_normal r)
  log_in_started r w l had = at (logged x r w l had)
    where
      at : Logged x r w l → IsStarted past w × AtMost w (worked_last_normal r)
      at (Leader e q is) = in_first r w e
      at (Follower e q is) = in_first r w e
      at (Other e q is) = in_first r w e
      at (Next e q is) = in_second r w e q

  started_has_leader : (w : View) → IsStarted past w → (m : List Entry) × LeaderHad 1 past w m
  started_has_leader w (s, is) = at (begun x w s is)
    where
      at : Begun x w s → (m : List Entry) × LeaderHad 1 past w m
      at (First e g) = (leader_log, subst (λ u. LeaderHad 1 past u leader_log) (sym e) refl)
      at (Later e g) = (second_log x, subst (λ u. LeaderHad 1 past u (second_log x)) (sym e) refl)

  entry_order : (r : ℕ) (v : View) (e : Entered) → past.entry r v ≡ Some e → Below e.last_normal v
  entry_order r v e is = let t = came_to x r v e (came x r v e is) in rw (t.0, t.1) first_below_second

  entry_log : (r : ℕ) (v : View) (e : Entered) → past.entry r v ≡ Some e → HadLog past r e.last_normal e.log
  entry_log r v e is = at (came x r v e is)
    where
      at : Came x r v e → HadLog past r e.last_normal e.log
      at (One w q g) =
          subst (λ (t : Entered). HadLog past r t.last_normal t.log) (sym g)
          (subst (λ i. HadLog past i first_view (follower_log x)) (sym q) refl)
      at (Two w q g) =
          subst (λ (t : Entered). HadLog past r t.last_normal t.log) (sym g)
          (subst (λ i. HadLog past i first_view (follower_log (Req (request_of 2)))) (sym q) refl)

  entries_chain : (r : ℕ) (v w : View) (d e : Entered) → past.entry r v ≡ Some d → past.entry r w ≡ Some e → Comparable v w
  entries_chain r v w d e a b = inl (AtMost-same v w ((came_to x r v d (came x r v d a)).0 ∙ sym (came_to x r w e (came x r w e b)).0))

  nothing_between : (r : ℕ) (v w : View) (e : Entered) (l : List Entry) → past.entry r v ≡ Some e → HadLog past r w l
      → AtMost w e.last_normal ⊎ AtMost v w
  nothing_between r v w e l is had = at (came_to x r v e (came x r v e is)) (logged x r w l had)
    where
      at : ((v ≡ second_view) × (e.last_normal ≡ first_view)) → Logged x r w l → AtMost w e.last_normal ⊎ AtMost v w
      at t (Leader u q g) = inl (AtMost-same w e.last_normal (u ∙ sym t.1))
      at t (Follower u q g) = inl (AtMost-same w e.last_normal (u ∙ sym t.1))
      at t (Other u q g) = inl (AtMost-same w e.last_normal (u ∙ sym t.1))
      at t (Next u q g) = inr (AtMost-same v w (t.0 ∙ sym u))

  certificate : (w : View) (s : Start) → IsStart past w s → (w ≡ first_view → ⊥)
      → (cs : List Change) × Certificate 1 past w cs × (s ≡ start_of w cs)
  certificate w s is not = at (begun x w s is)
    where
      at : Begun x w s → (cs : List Change) × Certificate 1 past w cs × (s ≡ start_of w cs)
      at (First e g) = absurd (not e)
      at (Later e g) = (
        changes x,
        subst (λ u. Certificate 1 past u (changes x)) (sym e) (certified x),
        g ∙ opened_is x c
            ∙ ap (λ (u : View). start_of u (changes x)) (sym e),
      )

  second_begins : (r : ℕ) (w : View) (l : List Entry) → w ≡ second_view → Logged x r w l → IsPrefixOf (follower_log x) l
  second_begins r w l e (Leader u q g) = absurd (views_apart (sym u ∙ e))
  second_begins r w l e (Follower u q g) = absurd (views_apart (sym u ∙ e))
  second_begins r w l e (Other u q g) = absurd (views_apart (sym u ∙ e))
  second_begins r w l e (Next u q g) = (NoOp ∷ [], g)

  begins_with_start : (r : ℕ) (w : View) (l : List Entry) (s : Start) → HadLog past r w l → IsStart past w s → IsPrefixOf s.log l
  begins_with_start r w l s had is = at (begun x w s is)
    where
      at : Begun x w s → IsPrefixOf s.log l
      at (First e g) = subst (λ (t : Start). IsPrefixOf t.log l) (sym g) (l, refl)
      at (Later e g) = subst (λ (t : Start). IsPrefixOf t.log l) (sym g) (second_begins r w l e (logged x r w l had))

  numbered : (r : ℕ) (w : View) (l : List Entry) (s : Start) → Begun x w s → Logged x r w l → Numbered w s l
  numbered r w l s (First e g) (Leader u q is) = numbered_at first_view w first_start s leader_log l e g is leader_numbered
  numbered r w l s (First e g) (Follower u q is) = numbered_at first_view w first_start s (follower_log x) l e g is (follower_numbered x c)
  numbered r w l s (First e g) (Other u q is) =
      numbered_at first_view w first_start s (follower_log (Req (request_of 2))) l e g is
      (follower_numbered (Req (request_of 2)) (inr refl))
  numbered r w l s (First e g) (Next u q is) = absurd (views_apart (sym e ∙ u))
  numbered r w l s (Later e g) (Leader u q is) = absurd (views_apart (sym u ∙ e))
  numbered r w l s (Later e g) (Follower u q is) = absurd (views_apart (sym u ∙ e))
  numbered r w l s (Later e g) (Other u q is) = absurd (views_apart (sym u ∙ e))
  numbered r w l s (Later e g) (Next u q is) = numbered_at second_view w (second_start x) s (second_log x) l e g is (second_numbered x)

  led_noops : (r : ℕ) (w : View) (l m : List Entry) → Logged x r w l
      → ((w ≡ first_view) × (m ≡ leader_log)) ⊎ ((w ≡ second_view) × (m ≡ second_log x)) → NoOpsIn m l
  led_noops r w l m (Leader u q is) (inl t) = noops_at m l leader_log leader_log t.1 is (λ k e. e)
  led_noops r w l m (Follower u q is) (inl t) = noops_at m l leader_log (follower_log x) t.1 is (follower_noops x)
  led_noops r w l m (Other u q is) (inl t) =
      noops_at m l leader_log (follower_log (Req (request_of 2))) t.1 is (follower_noops (Req (request_of 2)))
  led_noops r w l m (Next u q is) (inl t) = absurd (views_apart (sym t.0 ∙ u))
  led_noops r w l m (Leader u q is) (inr t) = absurd (views_apart (sym u ∙ t.0))
  led_noops r w l m (Follower u q is) (inr t) = absurd (views_apart (sym u ∙ t.0))
  led_noops r w l m (Other u q is) (inr t) = absurd (views_apart (sym u ∙ t.0))
  led_noops r w l m (Next u q is) (inr t) = noops_at m l (second_log x) (second_log x) t.1 is (λ k e. e)

  pub worked_grounds : Grounds 1 worked_stamps worked_last_normal past
  worked_grounds =
      record {
        stamped_once = stamped_once;
        session_positive = session_positive;
        current_log = current_log;
        log_in_started = log_in_started;
        started_has_leader = started_has_leader;
        entry_order = entry_order;
        entry_log = entry_log;
        entries_chain = entries_chain;
        nothing_between = nothing_between;
        certificate = certificate;
        begins_with_start = begins_with_start;
        request_by_number = λ r w l s k q had is above e. numbered r w l s (begun x w s is) (logged x r w l had) k q above e;
        noop_is_leaders = λ r w l m s k had lead is above e. led_noops r w l m (logged x r w l had) (leader_had w m (s, is) lead) k e;
      }
