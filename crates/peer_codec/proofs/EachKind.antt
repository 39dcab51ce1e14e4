-- The fields of each kind: what was spelled is read, and what is read is spelled.
use Rattle.std.proofs.Common.{◌≡◌, ℕ, Bool, true, false, cond, eqb, List, ◌++◌, Result, Ok, refl, sym, ap, subst, ◌∙◌, append_assoc, inl}
use Rattle.std.proofs.Common.{inr, ◌⊎◌}
use Rattle.std.specs.Prelude.{◌<◌, ◌^◌}
use Rattle.std.specs.Int.{w32, w64}
use Rattle.std.proofs.lemmas.Bool.{eqb-true}
use Rattle.nop_types.specs.Logs.{Log, Trimmed}
use Rattle.nop_types.specs.Ranges.{RequestFits, LogFits, SlotFits, LogChangeIsIn, LogStartIsIn, BodyFits}
use Rattle.nop_types.specs.declared.view.View.{View}
use Rattle.nop_types.specs.declared.request.Request.{Request}
use Rattle.nop_types.specs.declared.peer.Body.{Body}
use Rattle.nop_types.specs.declared.peer.Body.TheVariants.{SlotLookup, Found, GapCommit, GapRep, ViewChangeReq, ViewChange, StartView}
use Rattle.nop_types.specs.declared.peer.Body.TheVariants.{SyncPrepare, SyncRep, SyncCommit}
use Rattle.oum_codec.specs.Numbers.{IsBytes, be_bytes}
use Rattle.oum_codec.specs.Spelling.{view_bytes, request_bytes}
use Rattle.oum_codec.specs.Reading.{◌>>=◌}
use Rattle.oum_codec.proofs.Steps.{bind_ok, ok_is}
use Rattle.oum_codec.proofs.Numbers.{Takes, Takes-then}
use Rattle.peer_codec.specs.declared.bad_peer.BadPeer.{BadPeer}
use Rattle.peer_codec.specs.Spelling.{log_bytes, kind_of, body_bytes}
use Rattle.peer_codec.specs.Fields.{view_at, slot_at, next_at, length_at, request_at}
use Rattle.peer_codec.specs.Logs.{log_at}
use Rattle.peer_codec.specs.Reading.{found_at, view_change_at, start_view_at, sync_prepare_at, body_at}
use Rattle.peer_codec.proofs.EachField.{slot_takes, slot_again, next_takes, next_again, length_takes, length_again, started_takes}
use Rattle.peer_codec.proofs.EachField.{started_again, request_takes, request_again}
use Rattle.peer_codec.proofs.EachLog.{log_takes, log_again}

abbrev pub ReadBody : Type 0
ReadBody = Result (Body × List ℕ) BadPeer

abbrev read_body : Body × List ℕ → ReadBody
read_body x = Ok x

-- a body of this kind was taken from the front of the bytes
pub record TakesBody (kind : ℕ) (bytes : List ℕ) (x : Body × List ℕ) : Type 0 where
  pub is_kind : kind_of x.0 ≡ kind
  pub takes : Takes bytes (body_bytes x.0) x.1
  pub fits : BodyFits x.0

-- ---- what is read is spelled

-- kinds with one number of four bytes
record IsOneNumber (read : List ℕ → Result (ℕ × List ℕ) BadPeer) (Fits : ℕ → Type 0) (kind : ℕ) (make : ℕ → Body) : Type 0 where
  pub takes : (bytes : List ℕ) (x : ℕ × List ℕ) → IsBytes bytes → read bytes ≡ Ok x → Takes bytes (be_bytes w32 x.0) x.1 × Fits x.0
  pub is_kind : (n : ℕ) → kind_of (make n) ≡ kind
  pub text : (n : ℕ) → body_bytes (make n) ≡ be_bytes w32 n
  pub fits : (n : ℕ) → Fits n → BodyFits (make n)

number_takes : (read : List ℕ → Result (ℕ × List ℕ) BadPeer) (Fits : ℕ → Type 0) (kind : ℕ) (make : ℕ → Body)
    → IsOneNumber read Fits kind make
    → (bytes : List ℕ) (x : Body × List ℕ) → IsBytes bytes → (read bytes >>= λ n. Ok (make n.0, n.1)) ≡ Ok x → TakesBody kind bytes x
number_takes read Fits kind make one bytes x fits e =
    let a = bind_ok (read bytes) (λ n. Ok (make n.0, n.1)) x e in
    let t = one.takes bytes a.0 fits a.1 in
    let text : Takes bytes (body_bytes (make a.0.0)) a.0.1 = subst (λ (y : List ℕ). Takes bytes y a.0.1) (sym (one.text a.0.0)) t.0 in
    let made : Body × List ℕ = (make a.0.0, a.0.1) in
    subst (TakesBody kind bytes) (ok_is made x a.2) (record { is_kind = one.is_kind a.0.0; takes = text; fits = one.fits a.0.0 t.1 })

slot_lookup_kind : IsOneNumber slot_at SlotFits 16 SlotLookup
slot_lookup_kind = record { takes = slot_takes; is_kind = λ n. refl; text = λ n. refl; fits = λ n h. h }

gap_commit_kind : IsOneNumber slot_at SlotFits 18 GapCommit
gap_commit_kind = record { takes = slot_takes; is_kind = λ n. refl; text = λ n. refl; fits = λ n h. h }

gap_rep_kind : IsOneNumber slot_at SlotFits 19 GapRep
gap_rep_kind = record { takes = slot_takes; is_kind = λ n. refl; text = λ n. refl; fits = λ n h. h }

sync_rep_kind : IsOneNumber length_at (λ n. n < 2 ^ 32) 24 SyncRep
sync_rep_kind = record { takes = length_takes; is_kind = λ n. refl; text = λ n. refl; fits = λ n h. h }

sync_commit_kind : IsOneNumber length_at (λ n. n < 2 ^ 32) 25 SyncCommit
sync_commit_kind = record { takes = length_takes; is_kind = λ n. refl; text = λ n. refl; fits = λ n h. h }

found_takes : (bytes : List ℕ) (x : Body × List ℕ) → IsBytes bytes → found_at bytes ≡ Ok x → TakesBody 17 bytes x
unfolding found_at
found_takes bytes x fits e =
    let a = bind_ok (slot_at bytes) _ x e in
    let b = bind_ok (request_at a.0.1) _ x a.2 in
    let t0 = slot_takes bytes a.0 fits a.1 in
    let t1 = request_takes a.0.1 b.0 t0.0.rest_fits b.1 in
    let both = Takes-then bytes _ _ _ _ t0.0 t1.0 in
    let made : Body × List ℕ = (Found a.0.0 b.0.0, b.0.1) in
    subst (TakesBody 17 bytes) (ok_is made x b.2) (record { is_kind = refl; takes = both; fits = record { place = t0.1; request = t1.1 } })

view_change_req_takes : (bytes : List ℕ) (x : Body × List ℕ) → IsBytes bytes → read_body (ViewChangeReq, bytes) ≡ read_body x
    → TakesBody 20 bytes x
view_change_req_takes bytes x fits e =
    let made : Body × List ℕ = (ViewChangeReq, bytes) in
    subst (TakesBody 20 bytes) (ok_is made x e) (record { is_kind = refl; takes = record { parts = refl; rest_fits = fits }; fits = tt })

view_change_takes : (bytes : List ℕ) (x : Body × List ℕ) → IsBytes bytes → view_change_at bytes ≡ Ok x → TakesBody 21 bytes x
unfolding view_change_at
view_change_takes bytes x fits e =
    let a = bind_ok (view_at bytes) _ x e in
    let b = bind_ok (next_at a.0.1) _ x a.2 in
    let c = bind_ok (log_at b.0.1) _ x b.2 in
    let t0 = started_takes bytes a.0 fits a.1 in
    let t1 = next_takes a.0.1 b.0 t0.0.rest_fits b.1 in
    let t2 = log_takes b.0.1 c.0 t1.0.rest_fits c.1 in
    let e1 = Takes-then bytes _ _ _ _ t0.0 t1.0 in
    let e2 = Takes-then bytes _ _ _ _ e1 t2.0 in
    let made : Body × List ℕ = (ViewChange a.0.0 b.0.0 c.0.0, c.0.1) in
    subst (TakesBody 21 bytes) (ok_is made x c.2)
    (record { is_kind = refl; takes = e2; fits = record { view = t0.1; number = t1.1; log_fits = t2.1 } })

start_view_takes : (bytes : List ℕ) (x : Body × List ℕ) → IsBytes bytes → start_view_at bytes ≡ Ok x → TakesBody 22 bytes x
unfolding start_view_at
start_view_takes bytes x fits e =
    let a = bind_ok (next_at bytes) _ x e in
    let b = bind_ok (log_at a.0.1) _ x a.2 in
    let t0 = next_takes bytes a.0 fits a.1 in
    let t1 = log_takes a.0.1 b.0 t0.0.rest_fits b.1 in
    let both = Takes-then bytes _ _ _ _ t0.0 t1.0 in
    let made : Body × List ℕ = (StartView a.0.0 b.0.0, b.0.1) in
    subst (TakesBody 22 bytes) (ok_is made x b.2) (record { is_kind = refl; takes = both; fits = record { number = t0.1; log_fits = t1.1 } })

sync_prepare_takes : (bytes : List ℕ) (x : Body × List ℕ) → IsBytes bytes → sync_prepare_at bytes ≡ Ok x → TakesBody 23 bytes x
unfolding sync_prepare_at
sync_prepare_takes bytes x fits e =
    let a = bind_ok (log_at bytes) (λ log. Ok (SyncPrepare log.0, log.1)) x e in
    let t = log_takes bytes a.0 fits a.1 in
    let made : Body × List ℕ = (SyncPrepare a.0.0, a.0.1) in
    subst (TakesBody 23 bytes) (ok_is made x a.2) (record { is_kind = refl; takes = t.0; fits = t.1 })

-- the first of two readings, where its test holds, else the second
chosen : (b : Bool) (x y z : ReadBody) → cond b x y ≡ z → ((b ≡ true) × (x ≡ z)) ⊎ ((b ≡ false) × (y ≡ z))
chosen true x y z e = inl (refl, e)
chosen false x y z e = inr (refl, e)

of_kind : (k kind : ℕ) (bytes : List ℕ) (x : Body × List ℕ) → eqb kind k ≡ true → TakesBody k bytes x → TakesBody kind bytes x
of_kind k kind bytes x same t = subst (λ (n : ℕ). TakesBody n bytes x) (sym (eqb-true _ _ same)) t

pub body_takes : (kind : ℕ) (bytes : List ℕ) (x : Body × List ℕ) → IsBytes bytes → body_at kind bytes ≡ Ok x → TakesBody kind bytes x
body_takes kind bytes x fits e =
    elim (chosen (eqb kind 16) (slot_at bytes >>= λ n. Ok (SlotLookup n.0, n.1)) _ (Ok x) e) [
      | inl here ↦ of_kind 16 kind bytes x here.0 (number_takes slot_at SlotFits 16 SlotLookup slot_lookup_kind bytes x fits here.1)
      | inr next ↦ elim (chosen (eqb kind 17) (found_at bytes) _ (Ok x) next.1) [
        | inl here ↦ of_kind 17 kind bytes x here.0 (found_takes bytes x fits here.1)
        | inr next ↦ elim (chosen (eqb kind 18) (slot_at bytes >>= λ n. Ok (GapCommit n.0, n.1)) _ (Ok x) next.1) [
          | inl here ↦ of_kind 18 kind bytes x here.0 (number_takes slot_at SlotFits 18 GapCommit gap_commit_kind bytes x fits here.1)
          | inr next ↦ elim (chosen (eqb kind 19) (slot_at bytes >>= λ n. Ok (GapRep n.0, n.1)) _ (Ok x) next.1) [
            | inl here ↦ of_kind 19 kind bytes x here.0 (number_takes slot_at SlotFits 19 GapRep gap_rep_kind bytes x fits here.1)
            | inr next ↦ elim (chosen (eqb kind 20) (Ok (ViewChangeReq, bytes)) _ (Ok x) next.1) [
              | inl here ↦ of_kind 20 kind bytes x here.0 (view_change_req_takes bytes x fits here.1)
              | inr next ↦ elim (chosen (eqb kind 21) (view_change_at bytes) _ (Ok x) next.1) [
                | inl here ↦ of_kind 21 kind bytes x here.0 (view_change_takes bytes x fits here.1)
                | inr next ↦ elim (chosen (eqb kind 22) (start_view_at bytes) _ (Ok x) next.1) [
                  | inl here ↦ of_kind 22 kind bytes x here.0 (start_view_takes bytes x fits here.1)
                  | inr next ↦ elim (chosen (eqb kind 23) (sync_prepare_at bytes) _ (Ok x) next.1) [
                    | inl here ↦ of_kind 23 kind bytes x here.0 (sync_prepare_takes bytes x fits here.1)
                    | inr next ↦ elim (chosen (eqb kind 24) (length_at bytes >>= λ n. Ok (SyncRep n.0, n.1)) _ (Ok x) next.1) [
                      | inl here ↦ of_kind 24 kind bytes x here.0
                          (number_takes length_at (λ n. n < 2 ^ 32) 24 SyncRep sync_rep_kind bytes x fits here.1)
                      | inr next ↦ elim (chosen (eqb kind 25) (length_at bytes >>= λ n. Ok (SyncCommit n.0, n.1)) _ (Ok x) next.1) [
                        | inl here ↦ of_kind 25 kind bytes x here.0
                            (number_takes length_at (λ n. n < 2 ^ 32) 25 SyncCommit sync_commit_kind bytes x fits here.1)
                        | inr none ↦ absurd (let h = none.1 in cc)
                      ]
                    ]
                  ]
                ]
              ]
            ]
          ]
        ]
      ]
    ]

-- ---- what was spelled is read

found_again : (slot : ℕ) (r : Request) (rest : List ℕ) → SlotFits slot → RequestFits r
    → found_at (be_bytes w32 slot ++ request_bytes r ++ rest) ≡ Ok (Found slot r, rest)
unfolding found_at
found_again slot r rest slot_fits fits =
    let regrouped : be_bytes w32 slot ++ request_bytes r ++ rest ≡ be_bytes w32 slot ++ (request_bytes r ++ rest) =
    append_assoc (be_bytes w32 slot) (request_bytes r) rest in
    rw (regrouped, slot_again slot (request_bytes r ++ rest) slot_fits, request_again r rest fits) refl

start_view_again : (next : ℕ) (log : Log) (rest : List ℕ) → LogStartIsIn Trimmed next log
    → start_view_at (be_bytes w64 next ++ log_bytes log ++ rest) ≡ Ok (StartView next log, rest)
unfolding start_view_at
start_view_again next log rest fits =
    let regrouped : be_bytes w64 next ++ log_bytes log ++ rest ≡ be_bytes w64 next ++ (log_bytes log ++ rest) =
    append_assoc (be_bytes w64 next) (log_bytes log) rest in
    rw (regrouped, next_again next (log_bytes log ++ rest) fits.number, log_again log rest fits.log_fits) refl

view_change_again : (v : View) (next : ℕ) (log : Log) (rest : List ℕ) → LogChangeIsIn Trimmed v next log
    → view_change_at (view_bytes v ++ be_bytes w64 next ++ log_bytes log ++ rest) ≡ Ok (ViewChange v next log, rest)
unfolding view_change_at
view_change_again v next log rest fits =
    let more : List ℕ = be_bytes w64 next ++ (log_bytes log ++ rest) in
    let regrouped : view_bytes v ++ be_bytes w64 next ++ log_bytes log ++ rest ≡ view_bytes v ++ more =
    append_assoc (view_bytes v ++ be_bytes w64 next) (log_bytes log) rest
    ∙ append_assoc (view_bytes v) (be_bytes w64 next) (log_bytes log ++ rest) in
    ap view_change_at regrouped
    ∙ rw (started_again v more fits.view, next_again next (log_bytes log ++ rest) fits.number, log_again log rest fits.log_fits) refl

sync_prepare_again : (log : Log) (rest : List ℕ) → LogFits log → sync_prepare_at (log_bytes log ++ rest) ≡ Ok (SyncPrepare log, rest)
unfolding sync_prepare_at
sync_prepare_again log rest fits = rw (log_again log rest fits) refl

pub body_again : (b : Body) (rest : List ℕ) → BodyFits b → body_at (kind_of b) (body_bytes b ++ rest) ≡ Ok (b, rest)
body_again (SlotLookup slot) rest fits = rw (slot_again slot rest fits) refl
body_again (Found slot r) rest fits = found_again slot r rest fits.place fits.request
body_again (GapCommit slot) rest fits = rw (slot_again slot rest fits) refl
body_again (GapRep slot) rest fits = rw (slot_again slot rest fits) refl
body_again ViewChangeReq rest fits = refl
body_again (ViewChange v next log) rest fits = view_change_again v next log rest fits
body_again (StartView next log) rest fits = start_view_again next log rest fits
body_again (SyncPrepare log) rest fits = sync_prepare_again log rest fits
body_again (SyncRep len) rest fits = rw (length_again len rest fits) refl
body_again (SyncCommit len) rest fits = rw (length_again len rest fits) refl
