use Rattle.equation_matroid_laws.proofs.Repairs.{tells-choice}
use Rattle.equation_matroid_laws.specs.GreedyChoices.{earlier}
use Rattle.row_choice_laws.proofs.Joining.{joined-dependent, rows-independent}
use Rattle.residue_theory.specs.Sets.{both}
use Rattle.row_choice_laws.proofs.state_laws.loops_keep_the_greedy_choice.Goals as goal

pub returns : goal.returns
returns c p prime big M A D L O lay before line X K inside rows S U F tab kept tried = tells-choice p prime M big before line X K inside (record {
  independent = rows-independent p prime big M A D L O lay S U F tab K kept.on (λ x xl h. rows x xl (inside x xl h)) kept.used;
  passed_over = λ e el xe out. let (T, V, G, W, state, join, reach) = tried e el xe out in
      joined-dependent p prime big M A D L O lay T V G state (both K (earlier before X e)) e el (rows e el xe) join W reach;
})
