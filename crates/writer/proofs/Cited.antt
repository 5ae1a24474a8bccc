-- The lemmas that proofs cite by #[tactic(using)], a set for each function. Assumes nothing.
use Rattle.writer.proofs.AnswerLaws.{made_answers, list_wrong, codes_other, list_stands, list_answers, refused_image, accepted_image}
use Rattle.writer.proofs.TextLaws.{text_says, over_counted}
use Rattle.writer.proofs.TokenLaws.{span_forward, span_within, field_made, field_listed, int_plain, int_signed}
use Rattle.writer.proofs.CodeLaws.{codes_none, codes_more, count_differs, code_differs}
use Rattle.writer.proofs.EndLaws.{node_ends}

pub ruleset ends_node_end_lemmas = (node_ends)

pub ruleset fields_same_codes_lemmas = (codes_none, codes_more, count_differs, code_differs)

pub ruleset walk_put_field_lemmas = (span_forward, span_within, field_made, field_listed)

pub ruleset walk_put_int_lemmas = (int_plain, int_signed)

pub ruleset spelling_write_lemmas = (text_says, over_counted)

pub ruleset fields_write_listed_lemmas = (made_answers, list_wrong, codes_other, list_stands, list_answers)

pub ruleset write_lemmas = (refused_image, accepted_image)
