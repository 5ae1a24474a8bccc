-- The lemmas that proofs cite by #[tactic(using)], a set for each function. Assumes nothing.
use Rattle.dues.proofs.ElseLaws.{else-first-dotted, else-first-minus, else-name-first, else-test-minus}
use Rattle.dues.proofs.OnlyLaws.{only-rows, row-atom-open, row-proc-colon}
use Rattle.dues.proofs.DeedLaws.{past-gives, negated-zero, negated-some, plain-in-words, signed-in-words}

pub ruleset deeds_negative_integer_lemmas = (past-gives, negated-zero, negated-some)

pub ruleset groups_beginning_lemmas = (only-rows, row-atom-open)

pub ruleset groups_ending_lemmas = (only-rows)

pub ruleset groups_selecting_lemmas = (only-rows)

pub ruleset groups_going_on_lemmas = (only-rows, row-proc-colon)

pub ruleset rows_command_row_lemmas = (plain-in-words)

pub ruleset rows_operand_row_lemmas = (plain-in-words)

pub ruleset things_at_first_dotted_lemmas = (else-first-dotted)

pub ruleset things_at_first_minus_lemmas = (else-first-minus)

pub ruleset things_at_name_first_lemmas = (else-name-first)

pub ruleset things_at_negative_lemmas = (signed-in-words)

pub ruleset things_at_test_minus_lemmas = (else-test-minus)
