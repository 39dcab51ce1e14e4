-- A certificate passes fixed prefixes on.
use Rattle.std.proofs.Common.{◌≡◌, ℕ, ◌+◌, ◌-◌, ◌<◌, ◌≤◌, List, length, take, Some, refl, sym, ap, subst, ◌∙◌, arith, inl, inr}
use Rattle.std.proofs.lemmas.Bool.{cases_lt}
use Rattle.std.proofs.lemmas.Option.{same_Some}
use Rattle.nop_types.specs.declared.view.View.{View}
use Rattle.nop_types.specs.declared.request.Request.{Request}
use Rattle.nop_types.specs.declared.request.Entry.{Entry}
use Rattle.nop_types.specs.declared.request.Entry.TheVariants.{NoOp, Req}
use Rattle.nop_types.specs.PlainChanges.{Change}
use Rattle.nop_types.specs.declared.datagram.Stamped.{Stamped}
use Rattle.nop_types.specs.Lists.{Has, IsPrefixOf, slot_of}
use Rattle.nop_types.specs.Views.{Below}
use Rattle.lemmas.proofs.Slots.{slot_of-within, slot_of-some, slot_of-prefix, slot_of-from_take}
use Rattle.log_merge.specs.Merge.{merge}
use Rattle.log_merge.specs.Starting.{Start, greatest, kept}
use Rattle.started_views.specs.Agreement.{AgreeOn}
use Rattle.started_views.specs.Past.{Past, HadLog, IsStart, IsStarted}
use Rattle.started_views.specs.Settled.{Certificate, Fixed}
use Rattle.started_views.specs.Started.{Grounds}
use Rattle.started_views.proofs.Merges.{merge_agrees}
use Rattle.started_views.proofs.Certificates.{some_kept, kept_log, kept_shows}

module _ (f : ℕ) (stamps : List Stamped) (last_normal : ℕ → View) (past : Past) (h : Grounds f stamps last_normal past) where
  -- two requests at one slot above the start of one view are equal
  same_request : (w : View) (x : Start) (k q r : ℕ) (l m : List Entry) (a b : Request) → IsStart past w x → length x.log < k
      → HadLog past q w l → HadLog past r w m → slot_of l k ≡ Some (Req a) → slot_of m k ≡ Some (Req b) → a ≡ b
  same_request w x k q r l m a b is above had too e g =
      h.stamped_once w.session (x.next + (k - length x.log - 1)) a b (h.request_by_number q w l x k a had is above e)
      (h.request_by_number r w m x k b too is above g)

  module _ (v w : View) (cs : List Change) (c : Certificate f past v cs) (m : List Entry) (s : ℕ) (fixed : Fixed f past w m s)
      (below : Below w v) where
    -- the greatest view is started with the prefix
    pub passes_later : (x : Start) → IsStart past (greatest cs) x → IsPrefixOf (take s m) x.log → IsPrefixOf (take s m) (merge (kept cs))
    passes_later x is begins = merge_agrees (take s m) (kept cs) each
      where
        has : (d : Change) (k : ℕ) (e : Entry) → Has (kept cs) d → slot_of (take s m) k ≡ Some e → slot_of d.log k ≡ Some e
        has d k e here stands =
            slot_of-prefix x.log d.log k e
            (h.begins_with_start d.sender (greatest cs) d.log x (kept_log f stamps last_normal past h v cs c d here) is)
            (slot_of-prefix (take s m) x.log k e begins stands)

        each : (k : ℕ) (e : Entry) → slot_of (take s m) k ≡ Some e → AgreeOn (kept cs) k e
        each k e stands =
            let d = some_kept f stamps last_normal past h v cs c in
            inr ((e, (d.0, d.1, has d.0 k e d.1 stands)), λ b z here there. same_Some z e (sym there ∙ has b k e here stands))

    -- w itself is the greatest view
    pub passes_same : w ≡ greatest cs → IsPrefixOf (take s m) (merge (kept cs))
    passes_same is = merge_agrees (take s m) (kept cs) each
      where
        x : IsStarted past w
        x = (h.log_in_started _ w m fixed.leads).0

        start : List Entry
        start = x.0.log

        had : (d : Change) → Has (kept cs) d → HadLog past d.sender w d.log
        had d here = subst (λ u. HadLog past d.sender u d.log) (sym is) (kept_log f stamps last_normal past h v cs c d here)

        -- in the start of w
        low : (k : ℕ) (e : Entry) → 0 < k → k ≤ length start → slot_of m k ≡ Some e → AgreeOn (kept cs) k e
        low k e pos l stands =
            let y = slot_of-some start k pos l in
            let there = slot_of-prefix start m k y.0 (h.begins_with_start _ w m x.0 fixed.leads x.1) y.1 in
            let same : y.0 ≡ e = same_Some y.0 e (sym there ∙ stands) in
            let d = some_kept f stamps last_normal past h v cs c in
            let all : (b : Change) → Has (kept cs) b → slot_of b.log k ≡ Some e =
            λ b here. slot_of-prefix start b.log k y.0 (h.begins_with_start b.sender w b.log x.0 (had b here) x.1) y.1
            ∙ ap (λ (t : Entry). Some t) same in
            inr ((e, (d.0, d.1, all d.0 d.1)), λ b z here g. same_Some z e (sym g ∙ all b here))

        -- above it, what a kept log has in place of a request
        agrees : (k : ℕ) (q : Request) (b : Change) (z : Entry) → length start < k → slot_of m k ≡ Some (Req q) → Has (kept cs) b
            → slot_of b.log k ≡ Some z → z ≡ Req q
        agrees k q b NoOp above stands here g =
            let bad : slot_of m k ≡ Some NoOp = h.noop_is_leaders b.sender w b.log m x.0 k (had b here) fixed.leads x.1 above g in
            absurd (let e : Some NoOp ≡ Some (Req q) = sym bad ∙ stands in cc)
        agrees k q b (Req r) above stands here g =
            ap Req (same_request w x.0 k b.sender _ b.log m r q x.1 above (had b here) fixed.leads g stands)

        high : (k : ℕ) (e : Entry) → 0 < k → k ≤ s → length start < k → slot_of m k ≡ Some e → AgreeOn (kept cs) k e
        high k NoOp pos l above stands =
            inl (
              refl,
              kept_shows f stamps last_normal past h v cs c w (λ t. slot_of t k ≡ Some NoOp) is
                  (fixed.noops k x.0 x.1 above l stands) below,
            )
        high k (Req q) pos l above stands =
            let d = kept_shows f stamps last_normal past h v cs c w (λ t. s ≤ length t) is fixed.reached below in
            let y = slot_of-some d.0.log k pos (omega (arith, d.2)) in
            inr ((y.0, (d.0, d.1, y.1)), λ b z here g. agrees k q b z above stands here g)

        each : (k : ℕ) (e : Entry) → slot_of (take s m) k ≡ Some e → AgreeOn (kept cs) k e
        each k e stands =
            let r = slot_of-from_take s m k e stands in
            let pos = (slot_of-within (take s m) k e stands).0 in
            elim (cases_lt (length start) k) [ inl above ↦ high k e pos r.0 above r.1 | inr l ↦ low k e pos l r.1 ]
