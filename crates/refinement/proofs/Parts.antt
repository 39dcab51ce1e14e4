-- The past of a step that has parts.
use Rattle.std.proofs.Common.{◌≡◌, ℕ, ◌+◌, ◌*◌, ◌≤◌, Some, refl, sym, ap, ◌∙◌, arith, inl, inr, length, length-append, List, [], ◌∷◌, ◌++◌}
use Rattle.std.specs.Prelude.{◌⊎◌, ◌-◌, take}
use Rattle.std.proofs.lemmas.List.{take-append-le}
use Rattle.nop_types.specs.declared.view.View.{View}
use Rattle.nop_types.specs.declared.request.Entry.{Entry}
use Rattle.nop_types.specs.Views.{leader_of}
use Rattle.started_views.specs.Parts.{InParts}
use Rattle.started_views.specs.Past.{Past, Standing, HadLog, entered_with, started_with, note}
use Rattle.started_views.proofs.Parts.{past_of_parts, same_past, in_parts_staying}
use Rattle.started_views.proofs.Past.{note_log_here, note_log_places, note_entry_same, note_start_same}

-- ---- steps that may be parts of another

-- it stays in its view, and a leader keeps what that started with
pub record Stays (f r : ℕ) (s t : Standing) : Type 0 where
  pub view : t.view ≡ s.view
  pub last_normal : t.last_normal ≡ s.last_normal
  pub start : r ≡ leader_of s.last_normal (2 * f + 1) → started_with t ≡ started_with s

-- it changes nothing that is noted, but for the view
pub record Keeps (s t : Standing) : Type 0 where
  pub last_normal : t.last_normal ≡ s.last_normal
  pub next : t.next ≡ s.next
  pub sync_point : t.sync_point ≡ s.sync_point
  pub log : t.log ≡ s.log

-- ---- the past

-- what stands at one place stands at an equal one
had_at : (past : Past) (r : ℕ) (v w : View) (l k : List Entry) → HadLog past r v l → w ≡ v → k ≡ l → HadLog past r w k
had_at past r v w l k had e d = rw (e, d) had

-- nothing new is noted where nothing changed
pub note_idle : (f : ℕ) (past : Past) (r : ℕ) (s : Standing) → HadLog past r s.last_normal s.log → note f past r s s ≡ past
note_idle f past r s had = same_past (note f past r s s) past (record {
  logs = λ q w. elim (note_log_places f past r s s q w) [ inl (a, b) ↦ noted q w a b ∙ sym (there q w a b) | inr e ↦ e ];
  starts = λ w. note_start_same f past r s s w refl;
  entries = λ q w. note_entry_same f past r s s q w refl;
})
  where
    there : (q : ℕ) (w : View) → q ≡ r → w ≡ s.last_normal → past.log q w ≡ Some s.log
    there q w a b = rw (a, b) had

    noted : (q : ℕ) (w : View) → q ≡ r → w ≡ s.last_normal → (note f past r s s).log q w ≡ Some s.log
    noted q w a b = rw (a, b) (note_log_here f past r s s)

-- both parts together note what the whole step does
pub note_parts : (f : ℕ) (past : Past) (r : ℕ) (a b c : Standing) → InParts f past r a b c
    → note f (note f past r a b) r b c ≡ note f past r a c
note_parts f past r a b c h = same_past (note f (note f past r a b) r b c) (note f past r a c) (past_of_parts f past r a b c h)

-- any step, and one that stays in its view
pub parts_staying : (f : ℕ) (past : Past) (r : ℕ) (a b c : Standing) → Stays f r b c → InParts f past r a b c
parts_staying f past r a b c h =
    in_parts_staying f past r a b c h.view h.last_normal
    (λ e. h.start (e ∙ ap (λ (v : View). leader_of v (2 * f + 1)) h.last_normal))

-- a step that changes nothing that is noted but the view, and one after it, of which one at most enters a view
pub parts_keeping : (f : ℕ) (past : Past) (r : ℕ) (a b c : Standing) → Keeps a b → HadLog past r a.last_normal a.log
    → (c.view ≡ b.view) ⊎ (b.view ≡ a.view) → InParts f past r a b c
parts_keeping f past r a b c h had once = record {
  log = inr (had_at past r a.last_normal b.last_normal a.log b.log had h.last_normal h.log);
  entry = elim once [ inl e ↦ inl e | inr e ↦ inr (e, same_entry) ];
  start = inl h.last_normal;
}
  where
    same_entry : entered_with b ≡ entered_with a
    same_entry i = record { last_normal = h.last_normal i; next = h.next i; sync_point = h.sync_point i; log = h.log i }

-- ---- steps of these kinds

pub stays_trans : (f r : ℕ) (a b c : Standing) → Stays f r a b → Stays f r b c → Stays f r a c
stays_trans f r a b c h g = record {
  view = g.view ∙ h.view;
  last_normal = g.last_normal ∙ h.last_normal;
  start = λ e. g.start (e ∙ ap (λ (v : View). leader_of v (2 * f + 1)) (sym h.last_normal)) ∙ h.start e;
}

pub stays_still : (f r : ℕ) (a : Standing) → Stays f r a a
stays_still f r a = record { view = refl; last_normal = refl; start = λ e. refl }

-- its sync point may rise
pub point_stays : (f r : ℕ) (a : Standing) (point : ℕ) → Stays f r a (record a { sync_point = point })
point_stays f r a point = record { view = refl; last_normal = refl; start = λ e. refl }

pub keeps_trans : (a b c : Standing) → Keeps a b → Keeps b c → Keeps a c
keeps_trans a b c h g = record {
  last_normal = g.last_normal ∙ h.last_normal;
  next = g.next ∙ h.next;
  sync_point = g.sync_point ∙ h.sync_point;
  log = g.log ∙ h.log;
}

-- an entry more, above what the view started with
pub started_with_more : (a : Standing) (x : Entry) → a.base ≤ length a.log
    → started_with (record a { next = a.next + 1; log = a.log ++ x ∷ [] }) ≡ started_with a
started_with_more a x low =
    let next : a.next + 1 - (length (a.log ++ x ∷ []) - a.base) ≡ a.next - (length a.log - a.base) =
    omega (arith, length-append a.log (x ∷ [])) in
    let log : take a.base (a.log ++ x ∷ []) ≡ take a.base a.log = take-append-le a.base a.log (x ∷ []) low in
    λ i. record { next = next i; log = log i }
