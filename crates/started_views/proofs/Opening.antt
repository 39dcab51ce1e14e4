-- The past that a run begins with meets the grounds.
use Rattle.std.proofs.Common.{◌≡◌, ℕ, zero, suc, List, [], Some, refl, sym, ap, subst, arith}
use Rattle.nop_types.specs.declared.view.View.{View}
use Rattle.nop_types.specs.declared.request.Request.{Request}
use Rattle.nop_types.specs.declared.request.Entry.{Entry}
use Rattle.nop_types.specs.declared.request.Entry.TheVariants.{NoOp, Req}
use Rattle.nop_types.specs.declared.datagram.Stamped.{Stamped}
use Rattle.nop_types.specs.Lists.{IsPrefixOf, slot_of}
use Rattle.nop_types.specs.Stamps.{WasStamped}
use Rattle.nop_types.specs.Views.{first_view}
use Rattle.lemmas.proofs.Views.{AtMost-same}
use Rattle.log_merge.specs.Starting.{Start}
use Rattle.started_views.specs.Past.{LeaderHad, IsStarted, first_past}
use Rattle.started_views.specs.Started.{Grounds}
use Rattle.started_views.proofs.Past.{first_log, first_start}

empty_log_has_no_slot : (k : ℕ) (l : List Entry) (x : Entry) → l ≡ [] → slot_of l k ≡ Some x → ⊥
empty_log_has_no_slot zero l x e g = cc
empty_log_has_no_slot (suc i) l x e g = let none : slot_of [] (suc i) ≡ Some x = subst (λ t. slot_of t (suc i) ≡ Some x) e g in cc

started_first : (w : View) → w ≡ first_view → IsStarted first_past w
started_first w e = subst (λ u. IsStarted first_past u) (sym e) (record { next = 1; log = [] }, refl)

leader_first : (f : ℕ) (w : View) → w ≡ first_view → LeaderHad f first_past w []
leader_first f w e = subst (λ u. LeaderHad f first_past u []) (sym e) refl

pub grounds_at_first : (f : ℕ) (stamps : List Stamped)
    → ((n k : ℕ) (a b : Request) → WasStamped stamps n k a → WasStamped stamps n k b → a ≡ b)
    → Grounds f stamps (λ r. first_view) first_past
grounds_at_first f stamps once =
    record {
      stamped_once = once;
      session_positive = λ w h. let e = (first_start w h.0 h.1).0 in omega (arith, ap (λ (t : View). t.session) e);
      current_log = λ r l. ([], refl);
      log_in_started = λ r w l had. let e = (first_log r w l had).0 in (started_first w e, AtMost-same w first_view e);
      started_has_leader = λ w h. let e = (first_start w h.0 h.1).0 in ([], leader_first f w e);
      entry_order = λ r v e is. absurd cc;
      entry_log = λ r v e is. absurd cc;
      entries_chain = λ r v w d e a b. absurd cc;
      nothing_between = λ r v w e l is had. absurd cc;
      certificate = λ w x is not. absurd (not (first_start w x is).0);
      begins_with_start = λ r w l x had is. let e = (first_start w x is).1 in subst (λ (t : Start). IsPrefixOf t.log l) (sym e) (l, refl);
      request_by_number = λ r w l x k q had is above e. absurd (empty_log_has_no_slot k l (Req q) (first_log r w l had).1 e);
      noop_is_leaders = λ r w l m x k had lead is above e. absurd (empty_log_has_no_slot k l NoOp (first_log r w l had).1 e);
    }
