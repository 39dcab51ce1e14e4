-- The past of a step that is noted in two parts.
use Rattle.std.proofs.Common.{◌≡◌, ℕ, ◌+◌, ◌*◌, List, Some, sym, ap, subst, ◌∙◌, inl, inr}
use Rattle.nop_types.specs.declared.view.View.{View}
use Rattle.nop_types.specs.declared.request.Entry.{Entry}
use Rattle.nop_types.specs.Views.{leader_of}
use Rattle.log_merge.specs.Starting.{Start}
use Rattle.started_views.specs.Past.{Entered, Past, Standing, HadLog, entered_with, started_with, note}
use Rattle.started_views.specs.Parts.{SamePast, InParts}
use Rattle.started_views.proofs.Past.{Enters, Starts, note_log_here, note_log_places, note_entry_here, note_entry_places, note_entry_same}
use Rattle.started_views.proofs.Past.{note_start_here, note_start_places, note_start_same}

-- what stands at one place stands at an equal one
same_place : {A : Type 0} (g : ℕ → View → A) (x : A) (q r : ℕ) (w v : View) → q ≡ r → w ≡ v → g r v ≡ x → g q w ≡ x
same_place g x q r w v e d h = subst (λ i. g i w ≡ x) (sym e) (subst (λ u. g r u ≡ x) (sym d) h)

module _ (f : ℕ) (p : Past) (r : ℕ) (a b c : Standing) (h : InParts f p r a b c) where
  abbrev middle : Past
  middle = note f p r a b

  abbrev parts : Past
  parts = note f middle r b c

  abbrev whole : Past
  whole = note f p r a c

  log_at : (q : ℕ) (w : View) → q ≡ r → w ≡ c.last_normal → parts.log q w ≡ whole.log q w
  log_at q w e d =
      same_place parts.log (Some c.log) q r w c.last_normal e d (note_log_here f middle r b c)
      ∙ sym (same_place whole.log (Some c.log) q r w c.last_normal e d (note_log_here f p r a c))

  logs : (q : ℕ) (w : View) → parts.log q w ≡ whole.log q w
  logs q w =
      elim (note_log_places f p r a c q w) [
        | inl t ↦ log_at q w t.0 t.1
        | inr one ↦ elim (note_log_places f middle r b c q w) [
          | inl t ↦ log_at q w t.0 t.1
          | inr two ↦ elim (note_log_places f p r a b q w) [
            | inr three ↦ two ∙ three ∙ sym one
            | inl t ↦ elim h.log [
              | inl same ↦ log_at q w t.0 (t.1 ∙ sym same)
              | inr had ↦
                  let mid = same_place middle.log (Some b.log) q r w b.last_normal t.0 t.1 (note_log_here f p r a b) in
                  let old = same_place p.log (Some b.log) q r w b.last_normal t.0 t.1 had in
                  two ∙ mid ∙ sym old ∙ sym one
            ]
          ]
        ]
      ]

  -- the second part enters no view
  module _ (same : c.view ≡ b.view) where
    entry_first : (q : ℕ) (w : View) → Enters a b → q ≡ r → w ≡ b.view → middle.entry q w ≡ whole.entry q w
    entry_first q w enters e d =
        same_place middle.entry (Some (entered_with a)) q r w b.view e d (note_entry_here f p r a b enters)
        ∙ sym
        (same_place whole.entry (Some (entered_with a)) q r w c.view e (d
        ∙ sym same) (note_entry_here f p r a c (λ t. enters (sym same ∙ t))))

    entries_first : (q : ℕ) (w : View) → parts.entry q w ≡ whole.entry q w
    entries_first q w =
        note_entry_same f middle r b c q w same
        ∙ elim (note_entry_places f p r a b q w) [
          | inl t ↦ entry_first q w t.0 t.1 t.2
          | inr three ↦ elim (note_entry_places f p r a c q w) [
            | inl t ↦ entry_first q w (λ u. t.0 (same ∙ u)) t.1 (t.2 ∙ same)
            | inr one ↦ three ∙ sym one
          ]
        ]

  -- the first part enters no view
  module _ (same : b.view ≡ a.view) (with : entered_with b ≡ entered_with a) where
    entry_second : (q : ℕ) (w : View) → Enters b c → q ≡ r → w ≡ c.view → parts.entry q w ≡ whole.entry q w
    entry_second q w enters e d =
        same_place parts.entry (Some (entered_with b)) q r w c.view e d (note_entry_here f middle r b c enters)
        ∙ ap (λ (t : Entered). Some t) with
        ∙ sym (same_place whole.entry (Some (entered_with a)) q r w c.view e d (note_entry_here f p r a c (λ t. enters (t ∙ sym same))))

    entries_second : (q : ℕ) (w : View) → parts.entry q w ≡ whole.entry q w
    entries_second q w =
        elim (note_entry_places f middle r b c q w) [
          | inl t ↦ entry_second q w t.0 t.1 t.2
          | inr two ↦ elim (note_entry_places f p r a c q w) [
            | inl t ↦ entry_second q w (λ u. t.0 (u ∙ same)) t.1 t.2
            | inr one ↦ two ∙ note_entry_same f p r a b q w same ∙ sym one
          ]
        ]

  entries : (q : ℕ) (w : View) → parts.entry q w ≡ whole.entry q w
  entries q w = elim h.entry [ inl same ↦ entries_first same q w | inr t ↦ entries_second t.0 t.1 q w ]

  -- the first part adopts no view
  module _ (same : b.last_normal ≡ a.last_normal) where
    start_second : (w : View) → Starts f r b c → w ≡ c.last_normal → parts.start w ≡ whole.start w
    start_second w s d =
        subst (λ u. parts.start u ≡ whole.start u) (sym d)
        (note_start_here f middle r b c s ∙ sym (note_start_here f p r a c (record {
          adopts = λ t. s.adopts (t ∙ sym same);
          leads = s.leads;
        })))

    starts_second : (w : View) → parts.start w ≡ whole.start w
    starts_second w =
        elim (note_start_places f middle r b c w) [
          | inl t ↦ start_second w t.0 t.1
          | inr two ↦ elim (note_start_places f p r a c w) [
            | inl t ↦ start_second w (record { adopts = λ u. t.0.adopts (u ∙ same); leads = t.0.leads }) t.1
            | inr one ↦ two ∙ note_start_same f p r a b w same ∙ sym one
          ]
        ]

  -- the second part adopts no view
  module _ (same : c.last_normal ≡ b.last_normal) (keeps : r ≡ leader_of c.last_normal (2 * f + 1) → started_with c ≡ started_with b) where
    start_first : (w : View) → Starts f r a b → w ≡ b.last_normal → middle.start w ≡ whole.start w
    start_first w s d =
        let leads : r ≡ leader_of c.last_normal (2 * f + 1) = s.leads ∙ ap (λ (u : View). leader_of u (2 * f + 1)) (sym same) in
        let mid : middle.start w ≡ Some (started_with b) =
        subst (λ u. middle.start u ≡ Some (started_with b)) (sym d) (note_start_here f p r a b s) in
        let all : whole.start w ≡ Some (started_with c) =
        subst (λ u. whole.start u ≡ Some (started_with c)) (same ∙ sym d) (note_start_here f p r a c (record {
          adopts = λ t. s.adopts (sym same ∙ t);
          leads = leads;
        })) in
        mid ∙ ap (λ (t : Start). Some t) (sym (keeps leads)) ∙ sym all

    starts_first : (w : View) → parts.start w ≡ whole.start w
    starts_first w =
        note_start_same f middle r b c w same
        ∙ elim (note_start_places f p r a b w) [
          | inl t ↦ start_first w t.0 t.1
          | inr three ↦ elim (note_start_places f p r a c w) [
            | inl t ↦ start_first w (record {
              adopts = λ u. t.0.adopts (same ∙ u);
              leads = t.0.leads ∙ ap (λ (u : View). leader_of u (2 * f + 1)) same;
            }) (t.1 ∙ same)
            | inr one ↦ three ∙ sym one
          ]
        ]

  starts : (w : View) → parts.start w ≡ whole.start w
  starts w = elim h.start [ inl same ↦ starts_second same w | inr t ↦ starts_first t.0 t.1 w ]

  -- both parts together give the past of the whole step
  pub past_of_parts : SamePast (note f (note f p r a b) r b c) (note f p r a c)
  past_of_parts = record { logs = logs; starts = starts; entries = entries }

-- a part that enters a view and changes nothing else, and one that enters none
pub in_parts_entering : (f : ℕ) (p : Past) (r : ℕ) (a b c : Standing) → b.last_normal ≡ a.last_normal → b.next ≡ a.next → b.log ≡ a.log
    → HadLog p r a.last_normal a.log → c.view ≡ b.view → InParts f p r a b c
in_parts_entering f p r a b c v n l had e = record {
  log = inr (had_moved b.last_normal b.log v l);
  entry = inl e;
  start = inl v;
}
  where
    had_moved : (u : View) (k : List Entry) → u ≡ a.last_normal → k ≡ a.log → HadLog p r u k
    had_moved u k g h = rw (g, h) had

-- any part, and one that stays in the view and keeps what a leader started it with
pub in_parts_staying : (f : ℕ) (p : Past) (r : ℕ) (a b c : Standing) → c.view ≡ b.view → c.last_normal ≡ b.last_normal
    → (r ≡ leader_of c.last_normal (2 * f + 1) → started_with c ≡ started_with b) → InParts f p r a b c
in_parts_staying f p r a b c e v s = record { log = inl v; entry = inl e; start = inr (v, s) }

-- two pasts that say the same are one
pub same_past : (a b : Past) → SamePast a b → a ≡ b
same_past a b h = λ i. record { log = λ r w. h.logs r w i; start = λ w. h.starts w i; entry = λ r w. h.entries r w i }
