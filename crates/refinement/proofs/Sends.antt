-- What lists of sends say and reply.
use Rattle.std.proofs.Common.{◌≡◌, Bool, true, false, refl, ap, inl, inr, List, [], ◌∷◌, ◌++◌}
use Rattle.nop_types.specs.declared.datagram.Reply.{Reply}
use Rattle.nop_types.specs.declared.peer.Body.{Body}
use Rattle.lemmas.proofs.Members.{Has-append_left, Has-append_right, Has-append_cases, Has-none}
use Rattle.replica_state.specs.declared.sending.Sending.{Sending}
use Rattle.replica_state.specs.declared.sending.Sending.TheVariants.{ToClient, ToReplicas, Trims}
use Rattle.replica_state.specs.declared.state.ReplicaState.{ReplicaState}
use Rattle.replica_state.specs.Sends.{to_all_if}
use Rattle.protocol.specs.Conf.{Conf}
use Rattle.protocol.specs.Moves.{say_unless}
use Rattle.protocol.specs.Said.{Said}
use Rattle.refinement.specs.Projection.{local_state_of, word_of, said_of, said_in, replied_in}
use Rattle.refinement.specs.Replicas.{Adds, AddsSends}

pub said_in-append : (a b : List Sending) → said_in (a ++ b) ≡ said_in a ++ said_in b
said_in-append [] b = refl
said_in-append (ToClient r ∷ a) b = said_in-append a b
said_in-append (ToReplicas dest p ∷ a) b = ap (λ (xs : List Said). said_of p ∷ xs) (said_in-append a b)
said_in-append (Trims first entries ∷ a) b = said_in-append a b

pub replied_in-append : (a b : List Sending) → replied_in (a ++ b) ≡ replied_in a ++ replied_in b
replied_in-append [] b = refl
replied_in-append (ToClient r ∷ a) b = ap (λ (xs : List Reply). r ∷ xs) (replied_in-append a b)
replied_in-append (ToReplicas dest p ∷ a) b = replied_in-append a b
replied_in-append (Trims first entries ∷ a) b = replied_in-append a b

-- a replica that is alone sends nothing to all
pub said_in-to_all : (b : Bool) (s : ReplicaState) (body : Body) → said_in (to_all_if b s body) ≡ say_unless b (local_state_of s) (word_of body)
said_in-to_all true s body = refl
said_in-to_all false s body = refl

pub replied_in-to_all : (b : Bool) (s : ReplicaState) (body : Body) → replied_in (to_all_if b s body) ≡ []
replied_in-to_all true s body = refl
replied_in-to_all false s body = refl

-- ---- what is added to a list

pub adds_none : {A : Type 0} (xs : List A) → Adds xs xs []
adds_none xs = record { kept = λ x h. h; added = λ x h. absurd (Has-none x h); only = λ x h. inl h }

pub adds_prefix : {A : Type 0} (xs more : List A) → Adds xs (more ++ xs) more
adds_prefix xs more = record {
  kept = λ x h. Has-append_right more xs x h;
  added = λ x h. Has-append_left more xs x h;
  only = λ x h. elim (Has-append_cases more xs x h) [ inl g ↦ inr g | inr g ↦ inl g ];
}

pub adds_more : {A : Type 0} (a b c xs ys : List A) → Adds a b xs → Adds b c ys → Adds a c (xs ++ ys)
adds_more a b c xs ys one two = record {
  kept = λ x h. two.kept x (one.kept x h);
  added = λ x h. elim (Has-append_cases xs ys x h) [ inl g ↦ two.kept x (one.added x g) | inr g ↦ two.added x g ];
  only = λ x h. elim (two.only x h) [
    | inl g ↦ elim (one.only x g) [ inl old ↦ inl old | inr new ↦ inr (Has-append_left xs ys x new) ]
    | inr g ↦ inr (Has-append_right xs ys x g)
  ];
}

pub sends_none : (c : Conf) → AddsSends c c []
sends_none c = record { said = adds_none c.said; replies = adds_none c.replies }

pub sends_more : (a b c : Conf) (xs ys : List Sending) → AddsSends a b xs → AddsSends b c ys → AddsSends a c (xs ++ ys)
sends_more a b c xs ys one two = record {
  said = rw (said_in-append xs ys) (adds_more a.said b.said c.said (said_in xs) (said_in ys) one.said two.said);
  replies = rw (replied_in-append xs ys) (adds_more a.replies b.replies c.replies (replied_in xs) (replied_in ys) one.replies two.replies);
}
