-- The first lines of schedules and of transcripts.
use Rattle.std.specs.Prelude.{ℕ, Bool, ◌==◌, ◌&&◌, ◌||◌}
use Rattle.nop_types.specs.Configuration.{Configuration, is_configuration}
use Rattle.nop_types.specs.declared.header.Header.{Header}

-- a header of this form gives this configuration: form 1 has no count of controllers, and means one; form 3 alone has observers
abbrev pub gives : ℕ → Configuration → Bool
gives form c = (form == 3) || ((c.observers == 0) && ((form == 2) || ((form == 1) && (c.controllers == 1))))

-- of its form, and within the limits
abbrev pub is_header : Header → Bool
is_header h = gives h.form h.config && is_configuration h.config
