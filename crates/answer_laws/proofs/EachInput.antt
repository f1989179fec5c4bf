-- Each input has an answer.
use Rattle.std.proofs.Common.{◌≤◌, ◌<◌, ℕ, Bool, true, false, ◌⊎◌, List, [], Option, inl, inr, length, refl, sym, lit<}
use Rattle.std.proofs.Common.{arith}
use Rattle.std.specs.Prelude.{◌&&◌, if◌then◌else◌, leb}
use Rattle.residue_theory.specs.Residues.{IsPrime}
use Rattle.residue_theory.proofs.SetLaws.{lt_cases}
use Rattle.residue_field.specs.Modulus.{modulus_of}
use Rattle.residue_field.specs.declared.field_name.FieldName.{FieldName}
use Rattle.residue_field.specs.declared.field_name.FieldName.TheVariants.{Large, Small}
use Rattle.mixed_model.specs.Layers.{Layers, layered_matrix_of}
use Rattle.mixed_model.specs.Models.{IsModel, MixedModel, mixed_matrix_of}
use Rattle.mixed_layering.specs.Layers.{origins_of}
use Rattle.cert_text.specs.declared.kind.Kind.{Kind}
use Rattle.cert_reader.specs.Limits.{certificate_limit}
use Rattle.cert_reader.specs.CertLines.{IsNoCertificate}
use Rattle.cert_verdict.specs.Verdicts.{IsAccepted, IsRejectedBy}
use Rattle.input_kinds.specs.Kinds.{GivesModel}
use Rattle.input_kinds.proofs.ByKind.{answered, is-model}
use Rattle.limits.specs.Limits.{input_limit}
use Rattle.made_models.specs.MadeModels.{IsSize}
use Rattle.answer_texts.specs.MadeTexts.{made_text}
use Rattle.command_line.specs.Words.{AsksFor, AsksToMake, format_of, over}
use Rattle.command_line.specs.declared.command.Command.{Command}
use Rattle.command_line.specs.declared.command.Command.TheVariants.{Check, Edit, OfModel, OfStudy}
use Rattle.command_line.specs.declared.command.Study.{Study}
use Rattle.answer_laws.proofs.EachStudy.{studied}
use Rattle.study_outputs.proofs.Ends.{studied-text}
use Rattle.command_line.specs.declared.command.Request.TheVariants.{Make, OfInput}
use Rattle.command_line.specs.declared.command.Task.{Task}
use Rattle.command_line.specs.declared.command.Task.TheVariants.{Analyse, Layer, Plan, Report}
use Rattle.desk_existence_laws.proofs.TextAnswers.{each-answer}
use Rattle.existence_laws.specs.Forms.{HasRightForm}
use Rattle.existence_laws.specs.Layerings.{HasLayers}
use Rattle.existence_laws.proofs.Layering.{has-layers}
use Rattle.existence_laws.proofs.MadeModels.{has-made}
use Rattle.existence_laws.proofs.Planning.{has-plan}
use Rattle.existence_laws.proofs.Reporting.{has-report}
use Rattle.existence_laws.proofs.RightForms.{right-form}
use Rattle.existence_laws.proofs.TextVerdicts.{text-verdict}
use Rattle.run_ends.specs.Ways.{HasText}
use Rattle.report_cli.specs.Fields.{command_modulus, certificate_version}
use Rattle.report_cli.specs.Formats.{limit_of}
use Rattle.report_cli.specs.Outputs.{IsOutputFor, end_of, end_of_rank, output_text}
use Rattle.report_cli.specs.declared.output.Output.{Output}
use Rattle.report_cli.specs.declared.output.Output.TheVariants as outputs
use Rattle.run_ends.specs.declared.status.Status.TheVariants.{BadCertificate, Done, NotRegular, Refused, Rejected, TooLong}
use Rattle.report_cli.proofs.FieldFacts.{odd-of, prime-of}
use Rattle.report_cli.proofs.Making.{asked-size}
use Rattle.answer_laws.specs.OneAnswer.{EachInputIsAnswered, HasAnswer}

-- how a report ends
ranked : (equations unknowns rank : ℕ) → HasText (end_of_rank equations unknowns rank)
ranked equations unknowns rank = chosen (leb equations rank && leb unknowns rank)
  where
    chosen : (whole : Bool) → HasText (if whole then Done else NotRegular)
    chosen true = inl refl
    chosen false = inr refl

high-of : (field : FieldName) → 65520 < modulus_of field
high-of Small = lit< tt
high-of Large = lit< tt

-- the layers of a model, and a right form of them
record IsLaid (p : ℕ) (model : MixedModel) : Type 0 where
  pub is : IsModel p model
  pub layers : HasLayers model
  pub form : HasRightForm p (mixed_matrix_of model) (layered_matrix_of layers.layers) (origins_of layers.layers layers.are.split)

module _ (p : ℕ) (prime : IsPrime p) (odd : 2 < p) where
  laid : (model : MixedModel) → IsModel p model → IsLaid p model
  laid model is =
      let layers : HasLayers model = has-layers p model is in
      record {
        is = is;
        layers = layers;
        form = right-form p prime odd (mixed_matrix_of model) is.equations.few is.unknowns.few
            (layered_matrix_of layers.layers) (origins_of layers.layers layers.are.split) layers.are.layered;
      }

-- what a task writes of an input that gives a model
record IsWritten (task : Task) (kind : Kind) (field : Option FieldName) (input : List ℕ) : Type 0 where
  pub output : Output ℕ
  pub right : IsOutputFor (λ value. value) (modulus_of (over field)) (OfModel task kind field) input output
  pub ends : HasText (end_of output)

written : (task : Task) (kind : Kind) (field : Option FieldName) (input : List ℕ) → length input ≤ input_limit →
    (model : MixedModel) → GivesModel (modulus_of (over field)) kind input model → IsWritten task kind field input
written task kind field input short model gives = go task
  where
    p : ℕ
    p = modulus_of (over field)

    prime : IsPrime p
    prime = prime-of (over field)

    all : IsLaid p model
    all = laid p prime (odd-of (over field)) model (is-model p kind input model gives)

    layers : Layers
    layers = all.layers.layers

    go : (task : Task) → IsWritten task kind field input
    go Analyse = record {
      output = outputs.Certificate (record { version = certificate_version field; modulus = p; kind = kind; echo = input; ccf = all.form.form });
      right = (
        kind,
        field,
        refl,
        record {
          model = model;
          gives = gives;
          version_is = refl;
          modulus_is = refl;
          kind_is = refl;
          echo = refl;
          short = short;
          form = all.form.is;
          layered = layered_matrix_of layers;
          origins = origins_of layers all.layers.are.split;
          layers = all.layers.are.layered;
          right = all.form.right;
        },
      );
      ends = inl refl;
    }
    go Layer = record {
      output = outputs.Layers model layers;
      right = (kind, field, refl, gives, all.layers.are, all.layers.whole);
      ends = inl refl;
    }
    go Report =
        let report = has-report p prime (mixed_matrix_of model) in
        record {
          output = outputs.Report model report.told;
          right = (kind, field, refl, gives, report.is);
          ends = ranked report.told.equations report.told.unknowns report.told.rank;
        }
    go Plan =
        let plan = has-plan p prime (odd-of (over field)) model all.is layers all.layers.are all.form.form all.form.is all.form.right in
        record {
          output = outputs.Plan model layers plan.plan;
          right = (
            kind,
            field,
            refl,
            record {
              gives = gives;
              are = all.layers.are;
              whole = all.layers.whole;
              ccf = all.form.form;
              form = all.form.is;
              right = all.form.right;
              is = plan.is;
            },
          );
          ends = inl refl;
        }

module _ (words : List (List ℕ)) (input : List ℕ) where
  -- a text that a command writes is an answer
  by-text : (command : Command) → AsksFor words command → length input ≤ limit_of (format_of command) →
      (output : Output ℕ) → IsOutputFor (λ value. value) (command_modulus command) command input output →
      HasText (end_of output) → HasAnswer words input
  by-text command asks short output right (inl done) = record {
    status = Done;
    text = output_text (λ value. value) output;
    answer = inl (command, asks, (short, record { output = output; right = right; ends = sym done; text_is = refl }));
  }
  by-text command asks short output right (inr other) = record {
    status = NotRegular;
    text = output_text (λ value. value) output;
    answer = (command, asks, (short, record { output = output; right = right; ends = sym other; text_is = refl }));
  }

  of-model : (task : Task) (kind : Kind) (field : Option FieldName) → AsksFor words (OfModel task kind field) →
      length input ≤ input_limit → HasAnswer words input
  of-model task kind field asks short =
      elim (answered (modulus_of (over field)) (prime-of (over field)) (odd-of (over field)) kind input) [
        | inl given ↦ (let text = written task kind field input short given.0 given.1 in
            by-text (OfModel task kind field) asks short text.output text.right text.ends)
        | inr refused ↦ record {
          status = Refused refused.0;
          text = [];
          answer = (OfModel task kind field, asks, (short, refused.1, refl));
        }
      ]

  of-study : (study : Study) (kind : Kind) → AsksFor words (OfStudy study kind) → length input ≤ input_limit → HasAnswer words input
  of-study study kind asks short = elim (studied (modulus_of Small) (prime-of Small) (odd-of Small) kind input study) [
    | inl told ↦ by-text (OfStudy study kind) asks short (outputs.Studied told.0) (study, kind, refl, told.1) (studied-text told.0)
    | inr refused ↦ record {
      status = Refused refused.0;
      text = [];
      answer = (OfStudy study kind, asks, (short, refused.1, refl));
    }
  ]

  of-certificate : AsksFor words Check → length input ≤ certificate_limit → HasAnswer words input
  of-certificate asks short = go (text-verdict input short)
    where
      go : IsAccepted input ⊎ ((rule : ℕ) × IsRejectedBy input rule) ⊎ ((line : ℕ) × IsNoCertificate input line) →
          HasAnswer words input
      go (inl accepted) = by-text Check asks short outputs.Accepted (refl, accepted) (inl refl)
      go (inr (inl (rule, rejected))) = record {
        status = Rejected rule;
        text = [];
        answer = (Check, asks, (short, rejected, refl));
      }
      go (inr (inr (line, none))) = record {
        status = BadCertificate line;
        text = [];
        answer = (Check, asks, (short, none, refl));
      }

  of-lines : AsksFor words Edit → length input ≤ input_limit → HasAnswer words input
  of-lines asks short =
      let said = each-answer (modulus_of Small) (prime-of Small) (odd-of Small) input in
      by-text Edit asks short (outputs.Replies said.0) (refl, said.1) (inl refl)

  short-input : (command : Command) → AsksFor words command → length input ≤ limit_of (format_of command) →
      HasAnswer words input
  short-input (OfModel task kind field) asks short = of-model task kind field asks short
  short-input (OfStudy study kind) asks short = of-study study kind asks short
  short-input Check asks short = of-certificate asks short
  short-input Edit asks short = of-lines asks short

  of-command : (command : Command) → AsksFor words command → HasAnswer words input
  of-command command asks = elim (lt_cases (limit_of (format_of command)) (length input)) [
    | inl long ↦ record {
      status = TooLong (limit_of (format_of command));
      text = [];
      answer = (command, asks, (refl, long, refl));
    }
    | inr short ↦ short-input command asks (omega (arith, short))
  ]

  of-size : (n : ℕ) (field : Option FieldName) → AsksToMake words n field → IsSize n → HasAnswer words input
  of-size n field asks size =
      let p = modulus_of (over field) in
      let made = has-made p (high-of (over field)) n size in
      let all : IsLaid p made.model = laid p (prime-of (over field)) (odd-of (over field)) made.model made.is_model in
      let form = all.form.form in
      record {
        status = Done;
        text = made_text n (length all.layers.are.split) form;
        answer = inr (
          n,
          field,
          asks,
          record {
            split = length all.layers.are.split;
            ccf = form;
            right = record {
              size = size;
              model = made.model;
              made = made.made;
              is = made.is_model;
              layered = layered_matrix_of all.layers.layers;
              origins = origins_of all.layers.layers all.layers.are.split;
              layers = all.layers.are.layered;
              split_is = refl;
              form = all.form.is;
              right = all.form.right;
            };
            text_is = refl;
          },
        );
      }

pub each-answered : EachInputIsAnswered
each-answered words (OfInput command) asks input = of-command words input command asks
each-answered words (Make n field) asks input = of-size words input n field asks (asked-size words n field asks)
