-- The definitions that most proofs cite, passed on from one place. Declares nothing.
pub use Rattle.std.proofs.Common.{Bool, List, Ok, [], ap, arith, codes, drop, fold, inl, inr, length, refl, rules, subst, sym, ℕ, ℤ, ◌++◌, ◌+◌, ◌<◌, ◌∙◌, ◌∷◌, ◌≡◌, ◌≢◌, ◌≤◌, ◌⊎◌}
pub use Rattle.std.proofs.lemmas.Result.{IfErr-weaker, IfOk-weaker}
pub use Rattle.kpn_net.specs.Tables.{Tables}
pub use Rattle.kpn_command_base.specs.Audited.{IsFinding, IsFlaw, IsNoFinding}
pub use Rattle.kpn_command_base.specs.declared.refusal.Refusal.{Refusal}
pub use Rattle.kpn_deadlock.specs.Told.{AreRings, are_some}
pub use Rattle.kpn_shelf.specs.Shelf.{Loads}
pub use Rattle.kpn_text.specs.Document.{Document}
pub use Rattle.kpn_text_items.specs.ItemFile.{Spells}
pub use Rattle.kpn_command_explain.specs.Cut.{channels_cut, with_commas}
pub use Rattle.kpn_command_explain.specs.Lines.{behind_feeds, place_after_byte, place_behind}
pub use Rattle.kpn_command_explain.specs.TraceAnswers.{BeginsByRings, ExplainsEvent, budget, legal, refused, spelled}
