use Rattle.std.proofs.Common.{ℕ, List, ap}
use Rattle.sn_model.specs.declared.argument.OpenFlags.{OpenFlags as CallFlags}
use Rattle.sn_plan.specs.Asking.{login_by, maker_by}
use Rattle.sn_plan.proofs.Following.{and_then, does_same, stops}
use Rattle.sn_serve_names.specs.Messages.{gives_owner}
use Rattle.sn_serve_files.specs.Messages.{makes_file, makes_node}
use Rattle.sn_serve_files.proofs.creating.make_node.Goals as goal

pub returns-in_err-child : goal.returns-in_err-child
unfolding makes_node
returns-in_err-child g c = stops _ c.from_residual.result c.from_residual.ensures.1 c.child_of.ensures c.in_err-child.was

pub returns-in_err-make_file : goal.returns-in_err-make_file
unfolding makes_node
returns-in_err-make_file g c = and_then _ c.child_of.ensures c.in_ok-child.was
    (stops _ c.from_residual-in_err-make_file.result c.from_residual-in_err-make_file.ensures.1 (does_same (ap (λ (f : CallFlags). makes_file (login_by c.args.asker.now) c.in_ok-child.child f c.args.mode c.args.umask) c.making_new.ensures) c.make_file.ensures) c.in_err-make_file.was)

pub returns-in_err-give_owner : goal.returns-in_err-give_owner
unfolding makes_node
returns-in_err-give_owner g c = and_then _ c.child_of.ensures c.in_ok-child.was
    (and_then _ (does_same (ap (λ (f : CallFlags). makes_file (login_by c.args.asker.now) c.in_ok-child.child f c.args.mode c.args.umask) c.making_new.ensures) c.make_file.ensures) c.in_ok-make_file.was
    (stops _ c.from_residual-in_err-give_owner.result c.from_residual-in_err-give_owner.ensures.1
    (does_same (ap (λ (p : List ℕ). gives_owner (maker_by c.args.asker.now) c.args.parent p) c.path.ensures) c.give_owner.ensures) c.in_err-give_owner.was))

pub returns : goal.returns
unfolding makes_node
returns g c = and_then _ c.child_of.ensures c.in_ok-child.was
    (and_then _ (does_same (ap (λ (f : CallFlags). makes_file (login_by c.args.asker.now) c.in_ok-child.child f c.args.mode c.args.umask) c.making_new.ensures) c.make_file.ensures) c.in_ok-make_file.was
    (and_then _ (does_same (ap (λ (p : List ℕ). gives_owner (maker_by c.args.asker.now) c.args.parent p) c.path.ensures) c.give_owner.ensures) c.in_ok-give_owner.was c.made_at.ensures))
