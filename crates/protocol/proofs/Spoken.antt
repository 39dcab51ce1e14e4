-- What a replica says it says in its view.
use Rattle.std.proofs.Common.{◌≡◌, Bool, true, false, ap, List, [], subst, sym, inl, inr, ◌++◌}
use Rattle.nop_types.specs.declared.view.View.{View}
use Rattle.nop_types.specs.Lists.{Has}
use Rattle.lemmas.proofs.Members.{Has-none, Has-one, Has-append_cases}
use Rattle.protocol.specs.Conf.{Conf, HasOwner}
use Rattle.protocol.specs.LocalState.{LocalState}
use Rattle.protocol.specs.Moves.{say, say_unless}
use Rattle.protocol.specs.Said.{Said, Word, says}

abbrev pub IsSpokenIn : View → List Said → Type 0
IsSpokenIn v said = (y : Said) → Has said y → y.view ≡ v

pub none_spoken : (v : View) → IsSpokenIn v []
none_spoken v y i = absurd (Has-none y i)

pub one_spoken : (p : LocalState) (x : Word) → IsSpokenIn p.view (say p x)
one_spoken p x y i = ap (λ (z : Said). z.view) (Has-one y (says p.number p.view x) i)

pub unless_spoken : (b : Bool) (p : LocalState) (x : Word) → IsSpokenIn p.view (say_unless b p x)
unless_spoken true p x = none_spoken p.view
unless_spoken false p x = one_spoken p x

pub both_spoken : (v : View) (xs ys : List Said) → IsSpokenIn v xs → IsSpokenIn v ys → IsSpokenIn v (xs ++ ys)
both_spoken v xs ys h g y i = elim (Has-append_cases xs ys y i) [ inl l ↦ h y l | inr r ↦ g y r ]

-- what was said before, and more in a view of a session that was given out
pub said_owned : (c : Conf) (v : View) (more : List Said) → IsSpokenIn v more → HasOwner c.installs v.session
    → ((x : Said) → Has c.said x → HasOwner c.installs x.view.session) → (x : Said) → Has (more ++ c.said) x
    → HasOwner c.installs x.view.session
said_owned c v more spoken given old x i = elim (Has-append_cases more c.said x i) [
  | inl g ↦ subst (λ (w : View). HasOwner c.installs w.session) (sym (spoken x g)) given
  | inr g ↦ old x g
]
