-- Whole messages: what was spelled is read, and what is read is spelled.
use Rattle.std.proofs.Common.{◌≡◌, ℕ, true, eqb, List, [], ◌∷◌, ◌++◌, length, Result, Ok, Err, refl, sym, ap, subst, ◌∙◌, inl, inr, ◌⊎◌}
use Rattle.std.specs.Prelude.{IfOk, nat_le, ◌&&◌}
use Rattle.std.proofs.lemmas.Bool.{eqb-true}
use Rattle.std.proofs.lemmas.List.{append-nil, nil_from_length}
use Rattle.nop_types.specs.Ranges.{PeerFits}
use Rattle.nop_types.specs.declared.peer.Peer.{Peer}
use Rattle.nop_types.specs.declared.peer.Body.{Body}
use Rattle.nop_types.specs.declared.peer.Body.TheVariants.{SlotLookup}
use Rattle.oum_codec.specs.Numbers.{IsBytes}
use Rattle.oum_codec.specs.Spelling.{view_bytes}
use Rattle.oum_codec.proofs.Steps.{bind_ok, ok_is, passed_ok}
use Rattle.oum_codec.proofs.Numbers.{IsBytes-rest, Takes-then}
use Rattle.peer_codec.specs.declared.bad_peer.BadPeer.{BadPeer}
use Rattle.peer_codec.specs.declared.bad_peer.BadPeer.TheVariants.{Short, Kind, Field, Trailing, NoMemory}
use Rattle.peer_codec.specs.Answers.{Gives}
use Rattle.peer_codec.specs.Spelling.{kind_of, body_bytes, spelling, Spells}
use Rattle.peer_codec.specs.Fields.{sender_at, view_at}
use Rattle.peer_codec.specs.Reading.{body_at, message_of, reading}
use Rattle.peer_codec.proofs.EachField.{sender_takes, sender_again, started_takes, started_again}
use Rattle.peer_codec.proofs.EachKind.{body_takes, body_again}

abbrev done : Peer → Result Peer BadPeer
done p = Ok p

message_takes : (kind : ℕ) (rest : List ℕ) (p : Peer) → IsBytes rest → message_of kind rest ≡ Ok p → Spells p (kind ∷ rest)
unfolding message_of
message_takes kind rest p fits e =
    let a = bind_ok (sender_at rest) _ p e in
    let b = bind_ok (view_at a.0.1) _ p a.2 in
    let c = bind_ok (body_at kind b.0.1) _ p b.2 in
    let made : Peer = record { sender = a.0.0; view = b.0.0; body = c.0.0 } in
    let g = passed_ok (eqb (length c.0.1) 0) Trailing (done made) p c.2 in
    let t0 = sender_takes rest a.0 fits a.1 in
    let t1 = started_takes a.0.1 b.0 t0.0.rest_fits b.1 in
    let t2 = body_takes kind b.0.1 c.0 t1.0.rest_fits c.1 in
    let e1 = Takes-then rest _ _ _ _ t0.0 t1.0 in
    let e2 = Takes-then rest _ _ _ _ e1 t2.takes in
    let text : List ℕ = a.0.0 ∷ [] ++ view_bytes b.0.0 ++ body_bytes c.0.0 in
    let nothing : c.0.1 ≡ [] = nil_from_length c.0.1 (eqb-true _ _ g.0) in
    let whole : rest ≡ text = e2.parts ∙ ap (λ (x : List ℕ). text ++ x) nothing ∙ append-nil text in
    let spelled : kind ∷ rest ≡ spelling made = ap (λ (x : List ℕ). kind ∷ x) whole ∙ ap (λ (k : ℕ). k ∷ text) (sym t2.is_kind) in
    subst (λ (q : Peer). Spells q (kind ∷ rest)) (ok_is made p g.1)
    (record { fits = record { sender = t0.1; view = t1.1; body = t2.fits }; spelled = spelled })

pub is_spelled : (bytes : List ℕ) (p : Peer) → IsBytes bytes → reading bytes ≡ Ok p → Spells p bytes
unfolding reading
is_spelled [] p fits e = absurd cc
is_spelled (kind ∷ rest) p fits e =
    let g = passed_ok (nat_le 16 kind && nat_le kind 25) Kind (message_of kind rest) p e in
    message_takes kind rest p (IsBytes-rest kind rest fits) g.1

is_kind : (b : Body) → (nat_le 16 (kind_of b) && nat_le (kind_of b) 25) ≡ true
is_kind (SlotLookup slot) = refl
is_kind _ = refl

message_again : (p : Peer) → PeerFits p → message_of (kind_of p.body) (p.sender ∷ (view_bytes p.view ++ body_bytes p.body)) ≡ Ok p
unfolding message_of
message_again p fits =
    let body : body_at (kind_of p.body) (body_bytes p.body) ≡ Ok (p.body, []) =
    ap (body_at (kind_of p.body)) (sym (append-nil (body_bytes p.body))) ∙ body_again p.body [] fits.body in
    rw (
      sender_again p.sender (view_bytes p.view ++ body_bytes p.body) fits.sender,
      started_again p.view (body_bytes p.body) fits.view,
      body,
    ) refl

pub reads_again : (p : Peer) → PeerFits p → reading (spelling p) ≡ Ok p
unfolding reading
reads_again p fits = rw (is_kind p.body) (message_again p fits)

pub is_found : (bytes : List ℕ) (r : Result Peer BadPeer) → IsBytes bytes → Gives r (reading bytes) → IfOk r (λ p. Spells p bytes)
is_found bytes (Ok p) fits given = is_spelled bytes p fits given
is_found bytes (Err e) fits given = tt

pub is_only : (bytes : List ℕ) (r : Result Peer BadPeer) (p : Peer) → Gives r (reading bytes) → Spells p bytes
    → (r ≡ Ok p) ⊎ (r ≡ Err NoMemory)
is_only bytes r p given s = same r (reading bytes) given (ap reading s.spelled ∙ reads_again p s.fits)
  where
    same : (r read : Result Peer BadPeer) → Gives r read → read ≡ Ok p → (r ≡ Ok p) ⊎ (r ≡ Err NoMemory)
    same (Ok x) read given e = inl (sym given ∙ e)
    same (Err NoMemory) read given e = inr refl
    same (Err Short) read given e = absurd cc
    same (Err Kind) read given e = absurd cc
    same (Err Field) read given e = absurd cc
    same (Err Trailing) read given e = absurd cc

pub spelling_is_injective : (p q : Peer) → PeerFits p → PeerFits q → spelling p ≡ spelling q → p ≡ q
spelling_is_injective p q first second same = ok_is p q (sym (reads_again p first) ∙ ap reading same ∙ reads_again q second)
