use Rattle.row_choice_laws.proofs.Joining.{joined-dependent, joined-surplus}
use Rattle.row_choice_laws.proofs.row_laws.searches_in_vain_show_dependence.Goals as goal

pub returns : goal.returns
returns c p prime big M A D L O lay S U F tab B f fl row new join W reach = (
  joined-surplus p prime big M A D L O lay S U F tab B f fl row join W reach,
  joined-dependent p prime big M A D L O lay S U F tab B f fl row join W reach,
)
