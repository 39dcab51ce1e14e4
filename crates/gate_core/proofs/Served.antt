-- What holds of a user over any events.
use Rattle.std.proofs.Common.{◌≡◌, ℕ, ◌+◌, ◌-◌, ◌^◌, length, Bool, true, false, cond, List, [], ◌∷◌, ◌++◌, Option, Some, None, refl, sym, ap, subst, ◌∙◌, inl, inr, arith}
use Rattle.std.proofs.Common.{append-nil, append_assoc, length-append}
use Rattle.std.specs.Prelude.{nat_le, nat_lt, ◌&&◌}
use Rattle.std.specs.Ordering.{nat_cmp}
use Rattle.std.specs.FinMap as finite
use Rattle.std.proofs.lemmas.Bool.{lt-leb, and_left}
use Rattle.nop_types.specs.Configuration.{Configuration}
use Rattle.nop_types.specs.Machine.{Machine}
use Rattle.observer.specs.ObserverSteps.{Observer}
use Rattle.watching.specs.Watching.{Watching}
use Rattle.users.specs.declared.event.UserEvent.TheVariants as users
use Rattle.gate_core.specs.declared.act.Act.TheVariants.{Reply, Close}
use Rattle.gate_core.specs.declared.act.Event.{Event}
use Rattle.gate_core.specs.declared.act.Event.TheVariants as events
use Rattle.gate_core.specs.declared.gate_state.GateState.{GateState}
use Rattle.gate_core.specs.declared.session.Session.{Session}
use Rattle.gate_core.specs.declared.limits.TheConstants.{MAX_USERS}
use Rattle.gate_core.specs.Gates.{admitted, fresh, is_new, next, opened, opening, quiet, session_of, too_many, with_session}
use Rattle.gate_core.specs.Runs.{Heard, IsServed, Taken, after, bytes_in, bytes_of, gave, heard, heard_by, replies_to, taken, takes, opens, told_in, IsNoOpeningIn, IsNoOpeningOf, IsServedFrom}
use Rattle.gate_core.proofs.Answering.{replies_append}
use Rattle.gate_core.proofs.Desks.{counts_step}
use Rattle.gate_core.proofs.Entries.{put_here}
use Rattle.gate_core.proofs.Rows.{row_keeps}
use Rattle.gate_core.proofs.Serving.{Fits, IsInside, IsServing, own_reply, served_end}
use Rattle.gate_core.proofs.Numbers.{absent_after}
use Rattle.gate_core.proofs.Silence.{IsNoOpening, row_silent}

-- the same by other names
moved : (user : ℕ) (ops ops' : List Taken) (told told' : List Heard) (bytes bytes' : List ℕ) (replies replies' : List (List ℕ))
    → ops ≡ ops' → told ≡ told' → bytes ≡ bytes' → replies ≡ replies' → IsServed ops told user bytes replies → IsServed ops' told' user bytes' replies'
moved user ops ops' told told' bytes bytes' replies replies' o t b r h =
    subst (λ (os : List Taken). IsServed os told' user bytes' replies') o
    (subst (λ (ts : List Heard). IsServed ops ts user bytes' replies') t
    (subst (λ (bs : List ℕ). IsServed ops told user bs replies') b
    (subst (λ (rs : List (List ℕ)). IsServed ops told user bytes rs) r h)))

module _ (user : ℕ) where
  fits_served : (ops : List Taken) (told : List Heard) (bytes : List ℕ) (replies : List (List ℕ)) (o : Option Session)
      → Fits ops told user bytes replies o → IsServed ops told user bytes replies
  fits_served ops told bytes replies None h = h
  fits_served ops told bytes replies (Some s) h =
      subst (λ (rs : List (List ℕ)). IsServed ops told user bytes rs) (append-nil replies)
      (served_end ops told user bytes replies s [] (inl refl) h)

  -- from a state on
  pub run_served : (es : List Event) (g : GateState) (ops : List Taken) (told : List Heard) (bytes : List ℕ) (replies : List (List ℕ))
      → g.desk.state.taken ≡ length ops → IsInside ops told user bytes replies g
      → IsServed (ops ++ taken g es) (told ++ heard user (length bytes) g es) user (bytes ++ bytes_of user es)
      (replies ++ replies_to user (gave g es))
  run_served [] g ops told bytes replies counts h =
      moved user ops (ops ++ []) told (told ++ []) bytes (bytes ++ []) replies (replies ++ [])
      (sym (append-nil ops)) (sym (append-nil told)) (sym (append-nil bytes)) (sym (append-nil replies))
      (fits_served ops told bytes replies (session_of g user) h.fits)
  run_served (e ∷ es) g ops told bytes replies counts h =
      let g' = (next g e).0 in
      let now = heard_by user g (told_in g e) (length bytes) in
      let more = bytes_in user e in
      let later = heard user (length bytes + length more) g' es in
      let new_ops = takes (told_in g e) in
      moved user ((ops ++ new_ops) ++ taken g' es) (ops ++ taken g (e ∷ es))
      ((told ++ now) ++ later) (told ++ heard user (length bytes) g (e ∷ es))
      ((bytes ++ bytes_in user e) ++ bytes_of user es) (bytes ++ bytes_of user (e ∷ es))
      ((replies ++ replies_to user (next g e).1) ++ replies_to user (gave g' es)) (replies ++ replies_to user (gave g (e ∷ es)))
      (append_assoc ops new_ops (taken g' es))
      (append_assoc told now later)
      (append_assoc bytes (bytes_in user e) (bytes_of user es))
      (append_assoc replies (replies_to user (next g e).1) (replies_to user (gave g' es))
      ∙ ap (λ (rs : List (List ℕ)). replies ++ rs) (sym (replies_append user (next g e).1 (gave g' es))))
      (subst (λ (n : ℕ). IsServed ((ops ++ new_ops) ++ taken g' es) ((told ++ now) ++ heard user n g' es) user ((bytes ++ more) ++ bytes_of user es)
      ((replies ++ replies_to user (next g e).1) ++ replies_to user (gave g' es))) (length-append bytes more)
      (run_served es g' (ops ++ new_ops) (told ++ now) (bytes ++ more) (replies ++ replies_to user (next g e).1)
      (counts_step g e ops counts) (row_keeps user ops told bytes replies g counts h e)))

-- ---- from the opening on

pub counts_after : (es : List Event) (g : GateState) (ops : List Taken) → g.desk.state.taken ≡ length ops
    → (after g es).desk.state.taken ≡ length (ops ++ taken g es)
counts_after [] g ops h = h ∙ ap (λ (os : List Taken). length os) (sym (append-nil ops))
counts_after (e ∷ es) g ops h =
    counts_after es (next g e).0 (ops ++ takes (told_in g e)) (counts_step g e ops h)
    ∙ ap (λ (os : List Taken). length os) (append_assoc ops (takes (told_in g e)) (taken (next g e).0 es))

pub taken_append : (before later : List Event) (g : GateState) → taken g (before ++ later) ≡ taken g before ++ taken (after g before) later
taken_append [] later g = refl
taken_append (e ∷ before) later g =
    ap (λ (os : List Taken). takes (told_in g e) ++ os) (taken_append before later (next g e).0)
    ∙ sym (append_assoc (takes (told_in g e)) (taken (next g e).0 before) (taken (after (next g e).0 before) later))

module _ (user : ℕ) (ops : List Taken) (told : List Heard) where
  refused_served : IsServed ops told user [] (too_many ∷ [])
  refused_served = record {
    exchanges = [];
    rest = [];
    end_ = too_many ∷ [];
    requests = refl;
    each = tt;
    replies_are = refl;
    ends = inr (inr (inr refl));
  }

  fresh_serving : IsServing ops told user [] [] fresh
  fresh_serving = record { exchanges = []; each = tt; replies_are = refl; seen = refl; rests = refl }

  first_inside : (g : GateState) → is_new g user ≡ false → session_of g user ≡ None → (b : Bool)
      → IsInside ops told user []
      (replies_to user (cond b (g, Reply user too_many ∷ Close user ∷ []) (quiet (with_session g user fresh))).1)
      (cond b (g, Reply user too_many ∷ Close user ∷ []) (quiet (with_session g user fresh))).0
  first_inside g known none true = record {
    known = known;
    fits = subst (λ (o : Option Session). Fits ops told user [] (replies_to user (Reply user too_many ∷ Close user ∷ [])) o) (sym none)
        (subst (λ (rs : List (List ℕ)). IsServed ops told user [] rs) (sym (own_reply user too_many)) refused_served);
  }
  first_inside g known none false = record {
    known = known;
    fits = subst (λ (o : Option Session). Fits ops told user [] [] o) (sym (put_here g.sessions user fresh)) fresh_serving;
  }

-- a user is passed once it is opened
pub just_passed : (user : ℕ) → (nat_le (user + 1) user && nat_lt user (2 ^ 64 - 1)) ≡ false
just_passed user = and_left (nat_le (user + 1) user) (nat_lt user (2 ^ 64 - 1)) (lt-leb (user + 1) user (omega arith))

-- from the event with which it connects
opened_inside : (user : ℕ) (ops : List Taken) (told : List Heard) (g : GateState) → is_new g user ≡ true → session_of g user ≡ None
    → IsInside ops told user [] (replies_to user (opened g user).1) (opened g user).0
opened_inside user ops told g new none =
    subst (λ (b : Bool). IsInside ops told user [] (replies_to user (cond b (admitted (record g { next_user = user + 1 }) user) (quiet g)).1)
    (cond b (admitted (record g { next_user = user + 1 }) user) (quiet g)).0) (sym new)
    (first_inside user ops told (record g { next_user = user + 1 }) (just_passed user) none (nat_le MAX_USERS (finite.len g.sessions)))

module _ (config : Configuration) (first count : ℕ) (watch : Option Watching) (near : Option (Machine Observer)) where
  abbrev pub opened_first : GateState
  opened_first = opening config first count watch near

  pub none_first : (user : ℕ) → session_of opened_first user ≡ None
  none_first user = finite.get-empty nat_cmp user

  pub served_from : (before later : List Event) (user : ℕ) → is_new (after (opening config first count watch near) before) user ≡ true
      → IsServedFrom (opening config first count watch near) before later user
  served_from before later user new =
      let g0 = opening config first count watch near in
      let g = after g0 before in
      let ops = taken g0 before in
      let none = absent_after user before g0 (λ _. none_first user) new in
      let h = (opened g user).0 in
      let counts : g.desk.state.taken ≡ length ops = counts_after before g0 [] refl in
      let counted : h.desk.state.taken ≡ length ops =
      counts_step g (opens user) ops counts ∙ ap (λ (os : List Taken). length os) (append-nil ops) in
      moved user (ops ++ taken h later) (taken g0 (before ++ opens user ∷ later)) (heard user 0 h later)
      (heard user 0 g (opens user ∷ later)) (bytes_of user later) (bytes_of user later)
      (replies_to user (opened g user).1 ++ replies_to user (gave h later)) (replies_to user (gave g (opens user ∷ later)))
      (sym (taken_append before (opens user ∷ later) g0))
      refl
      refl (sym (replies_append user (opened g user).1 (gave h later)))
      (run_served user later h ops [] [] (replies_to user (opened g user).1) counted (opened_inside user ops [] g new none))

-- who is not connected stays so until it connects
no_opening_of : (user : ℕ) (g : GateState) (e : Event) → IsNoOpeningIn user e → IsNoOpening user g e
no_opening_of user g (events.User (users.Opened other)) unopened = λ same. absurd (unopened same)
no_opening_of user g _ unopened = tt

pub silent_from : (user : ℕ) (es : List Event) (g : GateState) → session_of g user ≡ None → IsNoOpeningOf user es → replies_to user (gave g es) ≡ []
silent_from user [] g none unopened = refl
silent_from user (e ∷ es) g none unopened =
    let h = row_silent user g none e (no_opening_of user g e unopened.0) in
    replies_append user (next g e).1 (gave (next g e).0 es)
    ∙ ap (λ (rs : List (List ℕ)). rs ++ replies_to user (gave (next g e).0 es)) h.none
    ∙ silent_from user es (next g e).0 h.gone unopened.1
