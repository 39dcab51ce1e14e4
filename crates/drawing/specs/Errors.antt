-- What the errors of the parts become.
use Rattle.std.specs.Prelude.{ℕ, ⊤, List, ◌++◌, None, Some, codes, decimal}
use Rattle.outside.specs.declared.errors.DeviceError.{DeviceError}
use Rattle.outside.specs.declared.errors.DeviceError.TheVariants as devices
use Rattle.schedule_text.specs.declared.next_error.NextError.{NextError}
use Rattle.schedule_text.specs.declared.next_error.NextError.TheVariants as nexts
use Rattle.schedule_text.specs.Rules.{rule_number}
use Rattle.schedule_text.specs.declared.rule.Rule.TheVariants as rules
use Rattle.transcript_text.specs.Transcript.{sent_text}
use Rattle.world.specs.declared.step_error.StepError.{StepError}
use Rattle.world.specs.declared.step_error.StepError.TheVariants as steps
use Rattle.drawing.specs.declared.error.DrawError.{DrawError}
use Rattle.drawing.specs.declared.error.DrawError.TheVariants.{Malformed, ReadFault, WriteFault, NoMemory}
use Rattle.drawing.specs.declared.status.Status.{Status}
use Rattle.drawing.specs.declared.status.Status.TheVariants as statuses

abbrev pub of_reader : NextError → DrawError
of_reader (nexts.BadLine line rule) = Malformed line rule None
of_reader nexts.ReadFault = ReadFault
of_reader nexts.NoMemory = NoMemory

abbrev pub of_sink : DeviceError → DrawError
of_sink devices.Failed = WriteFault
of_sink devices.NoMemory = NoMemory

-- the event of this line was refused
abbrev pub of_step : ℕ → StepError → DrawError
of_step line steps.NoSuchActor = Malformed line (rule_number rules.WrongActor) None
of_step line (steps.NoSuchDatagram index sent) = Malformed line (rule_number rules.NoSuchDatagram) (Some (index, sent))
of_step line steps.Forged = Malformed line (rule_number rules.Forged) None
of_step line steps.NoMemory = NoMemory

abbrev pub status_of : DrawError → Status
status_of (Malformed line rule index_sent) = statuses.Malformed
status_of ReadFault = statuses.ReadFault
status_of WriteFault = statuses.WriteFault
status_of NoMemory = statuses.NoMemory

-- the schedule is bad, or could not be read
abbrev pub IsOfSchedule : DrawError → Type 0
IsOfSchedule (Malformed line rule index_sent) = ⊤
IsOfSchedule ReadFault = ⊤
IsOfSchedule WriteFault = ⊥
IsOfSchedule NoMemory = ⊥

-- the schedule is bad, or memory ran out
abbrev pub IsOfEvent : DrawError → Type 0
IsOfEvent (Malformed line rule index_sent) = ⊤
IsOfEvent ReadFault = ⊥
IsOfEvent WriteFault = ⊥
IsOfEvent NoMemory = ⊤

-- nothing was written yet
abbrev pub IsUnwritten : DrawError → Type 0
IsUnwritten WriteFault = ⊥
IsUnwritten _ = ⊤

-- the line that says why there is no picture, without its end: at a bad line as a transcript has it
abbrev pub complaint_text : DrawError → List ℕ
complaint_text (Malformed line rule index_sent) =
    codes "error line " ++ decimal line ++ codes " rule " ++ decimal rule ++ sent_text index_sent
complaint_text ReadFault = codes "error reading the schedule"
complaint_text WriteFault = codes "error writing the picture"
complaint_text NoMemory = codes "error out of memory"
