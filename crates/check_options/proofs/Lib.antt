mod CommandLine
mod Rules
