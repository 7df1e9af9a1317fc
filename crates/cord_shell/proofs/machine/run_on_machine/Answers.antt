use Rattle.cord_shell.proofs.Headline.{misses_over, refuses_over, runs_over, shows_over}
use Rattle.cord_shell.proofs.machine.run_on_machine.Goals as goal

pub returns-clause-run : goal.returns-clause-run
returns-clause-run g c = λ file_system agrees path b unplanned statements asks at reads.
    runs_over _ _ _ c.drive_machine.ensures file_system agrees path c.bytes_are_one_script.ensures
    c.read_scripts_have_no_error.ensures b unplanned statements asks at reads

pub returns-clause-printed : goal.returns-clause-printed
returns-clause-printed g c = λ file_system agrees path b unplanned statements asks at reads.
    shows_over _ _ _ c.drive_machine.ensures file_system agrees path c.bytes_are_one_script.ensures
    c.read_scripts_have_no_error.ensures b unplanned statements asks at reads

pub returns-clause-refused : goal.returns-clause-refused
returns-clause-refused g c = λ file_system agrees path b unplanned show_plan asks at none.
    refuses_over _ _ _ c.drive_machine.ensures file_system agrees path b unplanned show_plan asks at none

pub returns-clause-missing : goal.returns-clause-missing
returns-clause-missing g c = λ file_system agrees path unplanned show_plan asks gone.
    misses_over _ _ _ c.drive_machine.ensures file_system agrees path unplanned show_plan asks gone
