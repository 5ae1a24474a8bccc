-- Each arm's words fit as the row of its tags asks: the row is computed, and each word is looked at by its role.
use borrow.Author.Rules.{rules}
use Rattle.rules.specs.Image.{row_of, row_in, line_of, line_in, tags}
use Rattle.nodecheck.proofs.Fitting.{arm, arm-of-two-halves, unused-fits, index-fits, uses-fits, binds-fits, child_fits}
use Rattle.nodecheck.proofs.rows.fits.Goals as goal

pub returns-in-1 : goal.returns-in-1
unfolding row_of row_in line_of line_in tags
returns-in-1 c = arm c.args.image.now c.args.n c.args.node _ _ _ (search rules) (index-fits _ _ _ _ c.index.ensures) (unused-fits _ _ _) (unused-fits _ _ _)

pub returns-in-2 : goal.returns-in-2
unfolding row_of row_in line_of line_in tags
returns-in-2 c = arm-of-two-halves c.args.image.now c.args.n c.args.node _ (search rules) (unused-fits _ _ _)

pub returns-in-4 : goal.returns-in-4
unfolding row_of row_in line_of line_in tags
returns-in-4 c = arm c.args.image.now c.args.n c.args.node _ _ _ (search rules) (unused-fits _ _ _) (unused-fits _ _ _) (unused-fits _ _ _)

pub returns-in-5 : goal.returns-in-5
unfolding row_of row_in line_of line_in tags
returns-in-5 c = arm c.args.image.now c.args.n c.args.node _ _ _ (search rules) (uses-fits _ _ _ _ c.name.ensures) (unused-fits _ _ _) (unused-fits _ _ _)

pub returns-in-3 : goal.returns-in-3
unfolding row_of row_in line_of line_in tags
returns-in-3 c = arm c.args.image.now c.args.n c.args.node _ _ _ (search rules) (child_fits _ _ _ _ _ c.child-in-3.ensures) (child_fits _ _ _ _ _ c.child-in-3-2.ensures) (unused-fits _ _ _)

pub returns-in-7 : goal.returns-in-7
unfolding row_of row_in line_of line_in tags
returns-in-7 c = arm c.args.image.now c.args.n c.args.node _ _ _ (search rules) (binds-fits _ _ _ _ c.name-in-7.ensures) (child_fits _ _ _ _ _ c.child.ensures) (unused-fits _ _ _)

pub returns-in-35 : goal.returns-in-35
unfolding row_of row_in line_of line_in tags
returns-in-35 c = arm c.args.image.now c.args.n c.args.node _ _ _ (search rules) (uses-fits _ _ _ _ c.name-in-35.ensures) (child_fits _ _ _ _ _ c.child-in-35.ensures) (unused-fits _ _ _)

pub returns-in-36 : goal.returns-in-36
unfolding row_of row_in line_of line_in tags
returns-in-36 c = arm c.args.image.now c.args.n c.args.node _ _ _ (search rules) (child_fits _ _ _ _ _ c.child-in-36.ensures) (child_fits _ _ _ _ _ c.child-in-36-2.ensures) (child_fits _ _ _ _ _ c.child-in-36-3.ensures)

pub returns-in-38 : goal.returns-in-38
unfolding row_of row_in line_of line_in tags
returns-in-38 c = arm c.args.image.now c.args.n c.args.node _ _ _ (search rules) (child_fits _ _ _ _ _ c.child-in-38.ensures) (child_fits _ _ _ _ _ c.child-in-38-2.ensures) (unused-fits _ _ _)

pub returns-in-39 : goal.returns-in-39
unfolding row_of row_in line_of line_in tags
returns-in-39 c = arm c.args.image.now c.args.n c.args.node _ _ _ (search rules) (child_fits _ _ _ _ _ c.child-in-39.ensures) (child_fits _ _ _ _ _ c.child-in-39-2.ensures) (unused-fits _ _ _)

pub returns-in-40 : goal.returns-in-40
unfolding row_of row_in line_of line_in tags
returns-in-40 c = arm c.args.image.now c.args.n c.args.node _ _ _ (search rules) (child_fits _ _ _ _ _ c.child-in-40.ensures) (child_fits _ _ _ _ _ c.child-in-40-2.ensures) (child_fits _ _ _ _ _ c.child-in-40-3.ensures)

pub returns-in-42 : goal.returns-in-42
unfolding row_of row_in line_of line_in tags
returns-in-42 c = arm c.args.image.now c.args.n c.args.node _ _ _ (search rules) (child_fits _ _ _ _ _ c.child-in-42.ensures) (unused-fits _ _ _) (unused-fits _ _ _)
