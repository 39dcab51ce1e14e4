use Rattle.client_reads.proofs.Ranges.{stays_within, step_sends, run_sends}
use Rattle.client_reads.proofs.laws.sends_reads_in_ranges.Goals as goal

pub returns-clause-stays : goal.returns-clause-stays
returns-clause-stays c = stays_within

pub returns-clause-step : goal.returns-clause-step
returns-clause-step c = step_sends

pub returns-clause-run : goal.returns-clause-run
returns-clause-run c = run_sends
